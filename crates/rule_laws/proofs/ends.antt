-- How a node leaves: each rule of a process's end.
pub mod Given
pub mod Handed
pub mod RecallAlls
pub mod Directories
pub mod Asked
pub mod Leavings
pub mod Lefts
pub mod Taken
pub mod Releases
pub mod Unmoved
pub mod Keeping
pub mod KeptItems
