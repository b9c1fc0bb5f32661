pub use Rattle.kernel_model.specs.Texts
pub mod Bytes
pub mod Front
