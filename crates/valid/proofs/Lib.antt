pub mod CheckLaws
pub mod ShapeLaws
pub mod SizeLaws
