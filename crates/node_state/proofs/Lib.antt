mod Keys
mod Lists
mod Places
mod Watching
pub mod Holding
