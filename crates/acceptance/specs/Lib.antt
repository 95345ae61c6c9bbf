pub mod OneRun
pub mod BlockRun
pub mod Events
pub mod Holds
pub mod Spelled
pub mod Accepts
pub mod Example
pub mod Laws
