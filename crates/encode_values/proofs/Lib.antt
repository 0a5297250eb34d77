pub mod Framing
pub mod Levels
pub mod Forms
