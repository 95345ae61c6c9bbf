pub mod Memory
pub mod Bytes
pub mod Pages
pub mod MemoryEvents
pub mod Linked
pub mod Laws
