pub mod Lexing
pub mod Parsing
pub mod State
pub mod Texts
pub mod Execution
pub mod Script
