pub mod Regs
pub mod Core
pub mod Next
pub mod lemmas
