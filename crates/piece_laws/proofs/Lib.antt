pub mod Readings
pub mod Taking
pub mod Examples
