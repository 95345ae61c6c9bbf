pub mod Told
pub mod Access
pub mod Laws
pub mod Form
pub mod FormLaws
pub mod Nop
pub mod lemmas
