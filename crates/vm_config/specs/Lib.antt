pub mod Config
pub mod Laws
