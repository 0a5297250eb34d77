pub mod RunLaws
pub mod SpreadingRuns
pub mod PairLaws
