pub mod Path
pub mod PathEvents
pub mod Order
pub mod Laws
