pub mod Walk
pub mod Cutting
pub mod Outcomes
