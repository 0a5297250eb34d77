pub mod Lists
pub mod Walk
pub mod Stages
