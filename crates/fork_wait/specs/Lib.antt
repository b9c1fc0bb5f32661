pub mod Children
pub mod Held
pub mod Reading
pub mod Spelling
pub mod Waiting
