pub mod Rows
pub mod Order
pub mod Program
pub mod Start
pub mod Laws
pub mod Same
pub mod Refines
