pub mod Showing
pub mod Ends
