-- The leader routes the first call of its hand, and what holds in every world that a run leads to still holds, with
-- the hand one shorter.
pub mod HandMoves
pub mod Forwards
pub mod Holdings
pub mod Owners
pub mod Routes
pub mod Takings
pub mod Asks
pub mod Answering
pub mod NobodyRoutes
pub mod Served
pub mod ServedRoutes
pub mod Grantings
pub mod Noted
pub mod ReadRoutes
pub mod HandRoutes
pub mod Bounces
