pub mod Fields
pub mod Many
