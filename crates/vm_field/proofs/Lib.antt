pub mod Prime
pub mod Ring
pub mod Inverse
pub mod Lift
pub mod Constraints
pub mod LimbLemmas
