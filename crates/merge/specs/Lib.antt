pub mod Merge
