pub mod Whole
pub mod Pushes
pub mod Joined
pub mod PushedWhole
