pub mod Caller
pub mod Examples
pub mod Law
pub mod Lines
pub mod Place
