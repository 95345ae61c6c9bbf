pub mod Link
pub mod LinkLaws
pub mod Cores
pub mod lemmas
