pub mod Pair
pub mod PairLaws
pub mod PairSound
pub mod Rows
