pub mod Weights
pub mod Runs
