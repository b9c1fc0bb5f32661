pub mod Journals
pub mod Views
pub mod Seats
pub mod Turns
pub mod Closing
pub mod Gathering
pub mod Appending
pub mod Numbering
