pub mod Lying
pub mod Meaning
pub mod Chunks
