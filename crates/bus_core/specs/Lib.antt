pub mod Short
pub mod Sums
pub mod Least
