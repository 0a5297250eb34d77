pub mod Copying
pub mod Unrolled
pub mod Fields
pub mod Numbers
