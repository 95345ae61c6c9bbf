pub mod Means
pub mod Form
pub mod Cores
