pub mod Reveal
pub mod Hint
