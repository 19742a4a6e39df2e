pub mod Session
pub mod Images
pub mod Commands
pub mod Faults
pub mod Responses
