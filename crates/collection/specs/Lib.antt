pub mod Faults
pub mod Moves
pub mod Runs
pub mod Parts
