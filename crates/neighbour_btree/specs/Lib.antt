pub mod Node
pub mod Shared
pub mod Changes
pub mod Lists
pub mod Root
