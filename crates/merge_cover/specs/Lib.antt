pub mod Marks
pub mod Bits
