pub mod Branch
pub mod Conditions
pub mod lemmas
