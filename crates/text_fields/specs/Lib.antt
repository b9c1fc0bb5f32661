pub use Rattle.quoted_bytes.specs.Bytes
pub mod Fields
