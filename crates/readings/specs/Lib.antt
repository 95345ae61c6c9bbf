pub mod Readings
pub mod Exact
pub mod Told
