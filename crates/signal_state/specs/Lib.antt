pub mod Arriving
pub mod Held
pub mod Reading
pub mod Spelling
