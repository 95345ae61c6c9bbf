pub mod Cut
pub mod Survey
pub mod Cutting
pub mod Progress
pub mod Laws
pub mod Segments
pub mod Proving
