pub mod Digits
pub mod States
