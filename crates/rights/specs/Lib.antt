pub mod Rights
pub mod Calls
pub mod Laws
pub mod Refusals
pub mod Lines
