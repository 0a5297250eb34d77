pub mod Pairs
pub mod Seen
pub mod Twice
pub mod PlaneArrays
pub mod Cuts
pub mod Merged
pub mod Merges
pub mod Instance
