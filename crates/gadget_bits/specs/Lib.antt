pub mod Bits
pub mod Sum
pub mod Stage
pub mod Record
pub mod Laws
