pub mod Watching
pub mod Ready
