pub mod Placing
pub mod Rested
pub mod Making
