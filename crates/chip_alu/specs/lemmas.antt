pub mod AluLaws
