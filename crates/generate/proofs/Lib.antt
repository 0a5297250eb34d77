pub mod Factors
pub mod Drawing
pub mod Columns
pub mod Making
pub mod Stages
