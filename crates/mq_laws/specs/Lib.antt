pub mod Alike
pub mod Together
pub mod Histories
pub mod Examples
