pub mod Chains
pub mod Examples
pub mod Keys
pub mod Nodes
