pub mod Bytes
pub mod Digits
pub mod Word
pub mod Arithmetic
pub mod Operations
pub mod ArithmeticLaws
pub mod Laws
