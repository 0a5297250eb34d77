pub mod IndexLaid
pub mod Indexing
