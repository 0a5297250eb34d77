pub mod Walking
pub mod Effects
pub mod Cut
pub mod Passing
pub mod Writing
pub mod Stages
