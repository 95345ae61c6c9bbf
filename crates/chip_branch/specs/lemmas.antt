pub mod Conditions
pub mod Means
pub mod Form
