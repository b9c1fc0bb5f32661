pub mod Lending
pub mod Placing
