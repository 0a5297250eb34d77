pub mod Numbering
pub mod Descending
pub mod Topped
