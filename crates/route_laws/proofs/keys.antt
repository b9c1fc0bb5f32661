-- The leader routes gets by a key, and removals of what it holds, for other nodes: so each call in its hand of another
-- node has a route.
pub mod NumberKinds
pub mod Refills
pub mod AtLeader
pub mod Taking
pub mod NewPlaces
pub mod MadeHere
pub mod MadeNames
pub mod MadeNumbers
pub mod OtherLeases
pub mod MadeByKey
pub mod KeyOutcomes
pub mod KeyWhole
pub mod KeyRoutes
pub mod Removals
pub mod RemovalRoutes
