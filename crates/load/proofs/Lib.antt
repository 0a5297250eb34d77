pub mod Drawn
pub mod Law
pub mod Refusals
pub mod Lines
pub mod Instance
