pub mod Pointer
pub mod Laws
pub mod Forms
pub mod Memory
pub mod MemoryLaws
pub mod Select
pub mod SelectLaws
