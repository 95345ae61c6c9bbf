pub mod Mul
pub mod Laws
pub mod lemmas
