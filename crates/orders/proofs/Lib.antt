pub mod Places
pub mod Stuck
