-- A node starts a call of its process: on the process itself, which it carries out; for a number, which it takes or
-- asks for; or for others, whom it asks. With what an entry of a process leaves of all that holds.
pub mod Entries
pub mod Others
pub mod EntryMoves
pub mod Served
pub mod Rebodied
pub mod Runs
pub mod Starting
pub mod Bodies
pub mod InWhole
pub mod Alone
pub mod OwnResults
pub mod OwnServed
pub mod OwnCalls
pub mod OwnWaits
pub mod Outs
pub mod Asks
pub mod Requests
pub mod Answered
pub mod Refused
pub mod NewNames
pub mod NewNumbers
pub mod Objects
pub mod Made
pub mod OwnCases
pub mod Moved
pub mod Enabled
