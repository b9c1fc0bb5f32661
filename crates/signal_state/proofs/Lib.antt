pub mod Masks
pub mod Actions
pub mod Bodies
pub mod Places
