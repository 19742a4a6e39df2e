pub mod Sums
pub mod Steps
mod Fresh
