pub mod Scatter
pub mod Store
pub mod Ragged
