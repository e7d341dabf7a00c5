mod Kept
pub mod Verdicts
mod Steps
mod Determined
mod Ending
