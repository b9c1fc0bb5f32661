pub mod JobLists
pub mod Outcomes
