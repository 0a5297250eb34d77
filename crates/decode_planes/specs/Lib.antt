pub mod Within
pub mod Limited
