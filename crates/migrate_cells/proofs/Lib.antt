pub mod Places
pub mod Reading
pub mod Meeting
