pub mod Own
pub mod Started
