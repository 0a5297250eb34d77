pub mod Generator
pub mod Cells
pub mod Loads
pub mod Room
