pub mod Columns
pub mod Values
pub mod Judging
pub mod Outcomes
