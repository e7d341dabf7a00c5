pub mod Unique
pub mod Masks
pub mod Rival
pub mod Agree
pub mod Example
