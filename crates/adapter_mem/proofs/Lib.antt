pub mod PointerLaws
pub mod FormLemmas
pub mod AddressLemmas
pub mod MemoryIsForm
pub mod WriteSteps
pub mod ReadSteps
pub mod SelectLemmas
pub mod MemoryParts
