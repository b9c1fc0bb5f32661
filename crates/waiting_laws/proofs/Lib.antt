mod Options
pub mod Rows
pub mod Maps
pub mod AtOnce
mod Tries
mod Alike
mod Processes
mod Objects
mod Transitions
mod Histories
pub mod Settling
mod Settled
pub mod Steps
mod Removals
mod Waits
mod People
mod Parked
pub mod Marked
pub mod Fair
mod Entries
pub mod OwnLines
mod Carrying
pub mod SoundFine
pub mod Woken
pub mod MarkMoves
mod Places
mod Order
mod Standing
mod Rounds
mod QueueLines
mod SetLines
pub mod RemovalLines
mod Parents
mod EndLines
pub mod LinesLead
pub mod OneEnd
pub mod GoingOn
mod ValidRows
pub mod Soundness
pub mod ParkWaits
pub mod FitsByLines
pub mod OthersMarks
pub mod AtObjects
pub mod Struck
pub mod Leads
pub mod ParksStruck
