pub mod Families
pub mod Bodies
