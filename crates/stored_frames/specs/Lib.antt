pub mod Walk
pub mod Stored
