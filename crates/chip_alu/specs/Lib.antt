pub mod Alu
pub mod Laws
pub mod lemmas
