pub mod Totals
pub mod Lengths
pub mod Written
pub mod Closed
