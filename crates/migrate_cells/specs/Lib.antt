pub mod Place
pub mod Reading
