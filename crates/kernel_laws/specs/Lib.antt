pub mod Lives
pub mod Numbers
pub mod Once
pub mod Processes
pub mod Queues
pub mod Reachable
pub mod Refusal
pub mod Sets
