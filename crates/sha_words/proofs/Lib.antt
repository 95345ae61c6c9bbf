pub mod ScheduleLemmas
pub mod RoundLemmas
