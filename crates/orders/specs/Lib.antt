pub mod Orders
pub mod Refusals
