pub mod Storing
pub mod Fitting
pub mod Writes
