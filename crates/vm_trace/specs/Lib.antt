pub mod Contents
pub mod Pages
pub mod PageBlocks
pub mod File
pub mod Limits
pub mod Canonical
