-- Calls of node 1's own process, which the leader routes as any other: they start, or come back to it.
pub mod Calm
pub mod Starts
pub mod OwnStarts
pub mod NotOwners
