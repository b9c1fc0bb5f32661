pub mod Thawing
pub mod Thaws
pub mod Examples
pub mod Laws
