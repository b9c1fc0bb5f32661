pub mod Agreeing
pub mod Views
