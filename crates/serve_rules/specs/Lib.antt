pub mod Held
pub mod Sent
pub mod Withdrawing
