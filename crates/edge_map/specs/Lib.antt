pub mod Maps
pub mod Jobs
pub mod Pieces
pub mod Plans
pub mod Refused
pub mod Listing
pub mod Ahead
pub mod Workspaces
