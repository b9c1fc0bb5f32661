pub mod Coded
pub mod Distinct
