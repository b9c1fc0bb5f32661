pub mod Ending
pub mod Fitting
pub mod Taking
