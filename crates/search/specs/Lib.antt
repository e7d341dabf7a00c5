pub mod Refusals
pub mod Under
pub mod Successors
pub mod Trace
