pub mod Tables
pub mod RowLaws
pub mod FieldLaws
pub mod DecodedLaws
pub mod ErrorLaws
pub mod EncodedLaws
