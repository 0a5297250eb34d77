pub mod Steps
pub mod Loops
pub mod Outcomes
