pub mod Sha256
pub mod Roots
pub mod Laws
