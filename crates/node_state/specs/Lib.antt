pub mod Deeds
pub mod Keys
pub mod Leader
pub mod Replies
pub mod State
pub mod Turning
pub mod Started
