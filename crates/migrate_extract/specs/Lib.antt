pub mod Asked
pub mod Chunks
