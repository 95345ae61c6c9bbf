pub mod Means
pub mod Load
