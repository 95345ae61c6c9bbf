pub mod Exacts
pub mod Gives
pub mod Same
pub mod Listed
