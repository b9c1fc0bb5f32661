pub mod Same
pub mod Found
pub mod Fronts
pub mod Sent
pub mod Silences
