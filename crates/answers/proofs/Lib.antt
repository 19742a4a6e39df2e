pub mod Ways
pub mod Walks
pub mod Places
pub mod Orders
pub mod Sets
pub mod Counts
