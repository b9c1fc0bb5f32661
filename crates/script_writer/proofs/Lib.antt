pub mod Repeated
pub mod Tables
pub mod Soundness
pub mod Examples
