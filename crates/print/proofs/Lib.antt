pub mod Cutting
pub mod Showing
