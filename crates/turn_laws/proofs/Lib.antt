pub mod Forkers
pub mod Turns
pub mod Sends
pub mod Enabled
pub mod Counts
pub mod Births
pub mod AgreeingLogs
