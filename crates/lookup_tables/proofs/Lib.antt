pub mod PlaceLemmas
pub mod RowsAt
pub mod Listed
