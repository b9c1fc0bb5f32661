pub mod Chains
pub mod Numerals
pub mod Many
pub mod Spelled
pub mod Sets
pub mod PlainRuns
