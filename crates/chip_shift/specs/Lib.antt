pub mod Shift
pub mod Laws
pub mod lemmas
