pub mod OneHot
pub mod Cells
