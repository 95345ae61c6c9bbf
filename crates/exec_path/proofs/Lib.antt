pub mod PathLemmas
pub mod OrderLemmas
