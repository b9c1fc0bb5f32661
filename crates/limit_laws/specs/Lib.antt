pub mod Bodies
pub mod Within
pub mod Laws
