pub mod BitLaws
pub mod SumLaws
pub mod Known
pub mod RecordReads
pub mod ShaMeans
pub mod ShaRecord
pub mod RecordWords
pub mod StageLaws
