pub mod Faults
pub mod MemSource
pub mod MemSink
pub mod Told
pub mod Stops
pub mod Standard
