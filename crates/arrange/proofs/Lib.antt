pub mod States
pub mod Law
pub mod Refusals
pub mod Lines
pub mod Instance
pub mod Places
