pub mod Views
pub mod Forkers
pub mod Looks
pub mod Turns
pub mod Logged
