pub mod Block
pub mod Given
