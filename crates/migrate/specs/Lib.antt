pub mod Live
pub mod Calls
pub mod Totals
pub mod Law
pub mod Meaning
pub mod Refusals
pub mod Demand1
pub mod Lines
