pub mod Followed
pub mod Given
pub mod Terms
pub mod Told
