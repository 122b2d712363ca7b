pub mod ShapeLaws
pub mod Depths
