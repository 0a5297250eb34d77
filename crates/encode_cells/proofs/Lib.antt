pub mod Placing
pub mod Gathering
pub mod Packing
