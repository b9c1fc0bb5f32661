pub mod Births
pub mod Coming
pub mod Handing
