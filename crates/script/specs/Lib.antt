pub mod Said
pub mod Reading
pub mod Kept
pub mod Executes
pub mod Listed
