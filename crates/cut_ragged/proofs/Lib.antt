pub mod Offsets
pub mod Walk
pub mod Counting
pub mod Ragged
pub mod Outcomes
