pub mod Planes
pub mod Laws
