pub mod Runs
pub mod Index
pub mod Rows
pub mod Subsets
pub mod Fitting
pub mod StoringCells
pub mod Steps
