pub mod Access
pub mod Meant
pub mod Sound
pub mod Filled
pub mod Form
