pub use Rattle.quoted_bytes.specs.Bytes
pub mod Words
pub mod Parts
pub mod Forms
pub mod Says
pub mod Fault
