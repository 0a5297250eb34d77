pub mod Seen
pub mod Outcomes
pub mod Placed
pub mod Values
pub mod Same
