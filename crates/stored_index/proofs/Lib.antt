pub mod IndexLaws
pub mod CheckedIndex
