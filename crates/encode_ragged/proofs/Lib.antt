pub mod Placed
pub mod Parts
