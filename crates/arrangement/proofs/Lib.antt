pub mod Walking
pub mod Laid
pub mod Stages
