pub mod Edits
pub mod Shared
pub mod Past
pub mod Homes
pub mod Epochs
pub mod Laws
pub mod HomeLaws
pub mod EpochLaws
