pub mod Deeds
pub mod Lending
pub mod Packing
pub mod Room
pub mod Standing
