pub mod Small
pub mod Outcomes
pub mod Placing
pub mod Levels
pub mod AllPlanes
