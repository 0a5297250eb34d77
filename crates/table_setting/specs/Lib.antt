pub mod Masks
pub mod Fit
pub mod Settle
