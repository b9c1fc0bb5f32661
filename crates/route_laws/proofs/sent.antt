-- A node takes a call that others sent it, and carries it out or sends it on.
pub mod Uncancelled
pub mod Brought
pub mod Needed
pub mod NoCheckpoint
pub mod SameNodes
pub mod InHand
pub mod Suggested
pub mod Sent
pub mod Bounced
pub mod Unleased
pub mod Forwarded
pub mod Behind
pub mod Forwards
pub mod Requests
pub mod NotOwners
