pub mod Worlds
pub mod FewDeeds
