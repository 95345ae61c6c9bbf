pub mod DivRem
pub mod Laws
pub mod lemmas
