pub mod Stored
pub mod Outcomes
