pub mod Load
pub mod lemmas
