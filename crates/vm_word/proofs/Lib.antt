pub mod DigitLemmas
pub mod WordLemmas
pub mod ArithmeticLemmas
pub mod SignedLemmas
pub mod ProductLemmas
pub mod DivisionLemmas
pub mod ShiftLemmas
