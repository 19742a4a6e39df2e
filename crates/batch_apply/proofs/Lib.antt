pub mod Dealing
pub mod Sorting
pub mod Cuts
pub mod Running
pub mod OneRange
