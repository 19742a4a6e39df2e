pub mod Inside
pub mod Written
pub mod Starts
pub mod Lines
