pub mod Forkers
pub mod Places
pub mod Rules
pub mod Sent
pub mod Turns
pub mod Inside
