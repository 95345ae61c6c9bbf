pub mod Round
pub mod Sheet
pub mod Words
pub mod Filled
pub mod Laws
pub mod lemmas
