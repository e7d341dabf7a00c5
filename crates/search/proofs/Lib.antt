pub mod Marks
pub mod Lists
pub mod Successors
pub mod Listing
pub mod Distinct
mod Traces
pub mod Going
pub mod Determined
