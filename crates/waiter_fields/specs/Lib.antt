pub mod Waiters
pub mod Ranges
pub mod Settling
