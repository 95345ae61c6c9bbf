pub mod Laws
pub mod Makers
pub mod Words
pub mod ElfFile
pub mod Sample
