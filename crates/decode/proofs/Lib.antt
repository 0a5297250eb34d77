pub mod Stages
pub mod Strict
