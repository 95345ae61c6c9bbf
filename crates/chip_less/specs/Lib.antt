pub mod Less
pub mod Laws
pub mod lemmas
