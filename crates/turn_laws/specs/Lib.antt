pub mod Forkers
pub mod Laws
pub mod AgreeingLogs
