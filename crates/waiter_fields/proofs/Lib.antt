pub mod WaiterLaws
pub mod Passing
pub mod SettleLemmas
