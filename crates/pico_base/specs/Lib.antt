pub mod ErrorNumber
pub mod Home
pub mod Lending
pub mod Options
pub mod Signal
