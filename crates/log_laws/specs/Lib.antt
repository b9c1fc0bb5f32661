pub mod Logs
pub mod Merge
pub mod Journal
pub mod Laws
pub mod EventLogs
pub mod Drawn
pub mod Follows
