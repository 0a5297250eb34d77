pub mod ValueRuns
pub mod SpreadingValues
