pub mod Tested
pub mod Rows
pub mod Balances
pub mod TwoSums
