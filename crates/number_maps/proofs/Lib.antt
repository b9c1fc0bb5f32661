pub mod Order
pub mod LookUps
pub mod Sets
pub mod Rising
pub mod Changes
