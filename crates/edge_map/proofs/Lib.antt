mod Works
mod Frontiers
mod Joins
mod Places
mod Refusals
mod JobParts
pub mod Walks
pub mod Lists
pub mod Listings
