pub mod Strings
pub mod Meaning
