pub mod MarkRuns
pub mod Once
pub mod BitLaws
pub mod RunBits
pub mod Marking
