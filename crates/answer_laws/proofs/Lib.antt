pub mod Landing
