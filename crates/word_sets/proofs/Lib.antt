pub mod Within
pub mod Members
pub mod Parts
pub mod WordPlaces
pub mod Targets
pub mod Changes
mod FewWords
