pub mod Looking
pub mod Outcomes
