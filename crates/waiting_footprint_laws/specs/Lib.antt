pub mod Footprint
pub mod Valid
pub mod Law
pub mod Examples
