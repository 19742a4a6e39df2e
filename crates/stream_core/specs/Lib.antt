pub mod Tables
pub mod Work
pub mod Runs
pub mod World
