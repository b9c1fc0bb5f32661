pub mod Lives
pub mod Step
pub mod Turns
