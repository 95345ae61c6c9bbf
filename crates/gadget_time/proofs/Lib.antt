pub mod Touches
pub mod Row
