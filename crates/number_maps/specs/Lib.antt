pub mod Maps
pub mod Rising
