pub mod Bits
pub mod Formats
pub mod Laws
pub mod Listing
pub mod Ranges
