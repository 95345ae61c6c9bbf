pub mod Shorts
pub mod Adding
pub mod Leasts
pub mod LeastOf
