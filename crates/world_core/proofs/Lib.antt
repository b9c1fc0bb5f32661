pub mod Alive
pub mod Behind
pub mod Busy
pub mod Choosing
pub mod Counting
pub mod Enabled
mod Examples
pub mod Lists
pub mod Masks
pub mod Members
pub mod Openings
pub mod Reached
pub mod Rest
pub mod Seats
pub mod Senders
pub mod Streams
pub mod Under
pub mod UnderWay
pub mod Walks
pub mod Wholes
pub mod Worlds
mod Allowed
