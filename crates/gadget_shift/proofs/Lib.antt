pub mod Numbers
pub mod Limb
pub mod Selected
pub mod Filling
pub mod ShiftSays
pub mod ShiftHolds
