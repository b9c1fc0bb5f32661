pub mod Projection
pub mod Laws
pub mod Examples
