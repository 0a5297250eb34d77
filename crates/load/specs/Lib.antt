pub mod Generator
pub mod Load
pub mod Calls
pub mod Law
pub mod Refusals
pub mod Lines
