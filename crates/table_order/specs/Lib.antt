pub mod Digits
pub mod Sorting
