pub mod Backing
pub mod CellLaws
pub mod Copying
pub mod Reversing
pub mod Sizes
