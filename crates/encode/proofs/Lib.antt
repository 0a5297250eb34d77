pub mod Walk
pub mod Carries
pub mod Encodes
