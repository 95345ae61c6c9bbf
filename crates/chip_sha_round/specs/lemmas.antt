pub mod RoundLaw
pub mod RoundReads
pub mod RoundFilled
pub mod RoundTable
