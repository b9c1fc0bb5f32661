pub mod Small
pub mod Spelled
