pub mod Rules
pub mod Cleared
pub mod Seeing
pub mod Concealing
pub mod Editing
pub mod Refusals
pub mod Lines
pub mod Instance
