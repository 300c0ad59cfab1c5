pub mod DivisionLaws
pub mod ChecksumLaws
pub mod Table
pub mod FieldLaws
