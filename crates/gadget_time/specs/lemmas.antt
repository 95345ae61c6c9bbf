pub mod ToldLaws
pub mod Filled
pub mod FormSound
pub mod FormBounds
pub mod FormComplete
pub mod NopLaws
pub mod Access
pub mod Meant
