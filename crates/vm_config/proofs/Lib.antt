pub mod Opcodes
pub mod FullLines
pub mod Sizes
