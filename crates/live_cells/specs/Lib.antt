pub mod Live
pub mod Levels
