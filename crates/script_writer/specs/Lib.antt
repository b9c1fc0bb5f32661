pub mod Generated
pub mod Waits
