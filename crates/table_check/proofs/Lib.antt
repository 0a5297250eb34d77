pub mod Walks
pub mod Resting
pub mod Following
pub mod Checking
