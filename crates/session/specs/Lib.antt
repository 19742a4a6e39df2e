pub mod Kept
pub mod Performs
pub mod Edits
pub mod Runs
pub mod Lending
pub mod Handles
