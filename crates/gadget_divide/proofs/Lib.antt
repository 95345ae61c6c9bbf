pub mod DividedSays
pub mod DividedHolds
