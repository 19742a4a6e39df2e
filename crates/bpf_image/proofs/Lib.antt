pub mod HeaderLaws
pub mod FormatLaws
