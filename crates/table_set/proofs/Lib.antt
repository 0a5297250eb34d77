pub mod Settling
pub mod Outcomes
