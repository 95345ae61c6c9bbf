pub mod TwoSums
pub mod Laws
