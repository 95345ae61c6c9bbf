pub mod Product
pub mod Carry
pub mod Multiply
pub mod Divide
pub mod Laws
