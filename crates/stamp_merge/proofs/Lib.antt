pub mod Filters
pub mod Sorts
pub mod Orders
pub mod Merges
pub mod Example
