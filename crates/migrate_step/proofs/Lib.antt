pub mod OldStrings
pub mod Writing
pub mod Stages
