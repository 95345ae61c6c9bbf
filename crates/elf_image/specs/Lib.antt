pub mod Elf
pub mod Loaded
pub mod Copies
pub mod Image
pub mod Layout
pub mod Laws
