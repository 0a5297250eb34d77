pub mod Buckets
pub mod Collecting
pub mod Placing
pub mod Sinking
pub mod Sorting
pub mod Tallying
