pub mod Agreement
pub mod KeyMap
