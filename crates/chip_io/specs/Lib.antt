pub mod Reveal
pub mod Hint
pub mod lemmas
