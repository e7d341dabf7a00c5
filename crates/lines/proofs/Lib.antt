pub mod Splits
pub mod Numbers
pub mod Pairs
pub mod Forms
pub mod LineFeeds
