pub mod Journal
pub mod Seated
pub mod Rule
pub mod Steps
pub mod Turns
pub mod Inside
pub mod InsideLock
