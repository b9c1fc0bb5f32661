pub mod Boxes
pub mod Parts
pub mod Examples
pub mod Sound
pub mod Text
