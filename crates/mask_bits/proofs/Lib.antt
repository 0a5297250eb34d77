pub mod Ones
pub mod Said
pub mod Parts
