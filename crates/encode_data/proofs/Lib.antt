pub mod Same
pub mod Spans
pub mod Slicing
pub mod Summing
pub mod Shown
