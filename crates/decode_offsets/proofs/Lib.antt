pub mod CopyingOffsets
pub mod SpreadingOffsets
