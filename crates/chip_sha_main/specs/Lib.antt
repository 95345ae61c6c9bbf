pub mod Main
pub mod Sheet
pub mod Run
pub mod Sha
pub mod Laws
pub mod lemmas
