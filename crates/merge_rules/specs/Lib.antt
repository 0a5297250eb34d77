pub mod Chunks
pub mod Checks
