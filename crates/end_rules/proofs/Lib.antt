pub mod Read
pub mod Fits
pub mod Endings
pub mod Exits
pub mod Rounds
pub mod Takes
