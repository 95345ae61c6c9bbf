pub mod Tables
pub mod Uses
pub mod Segment
pub mod Hints
pub mod Laws
pub mod Lookups
pub mod Filling
