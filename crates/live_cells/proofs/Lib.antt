pub mod Runs
pub mod LiveMarks
pub mod Levels
