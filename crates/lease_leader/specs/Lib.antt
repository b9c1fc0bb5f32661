pub mod Apart
pub mod Counting
pub mod Places
pub mod Stages
