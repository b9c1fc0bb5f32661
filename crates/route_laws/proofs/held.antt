-- A node other than the leader starts a call of its process that others may carry out: it serves the call at once
-- where it holds the name, and else asks the name's owner or the leader.
pub mod HeldStarts
pub mod OtherStarts
pub mod AnyStarts
