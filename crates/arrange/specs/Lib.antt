pub mod Arrangement
pub mod Places
pub mod Calls
pub mod Law
pub mod Refusals
pub mod Lines
