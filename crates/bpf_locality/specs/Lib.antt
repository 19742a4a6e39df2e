pub mod Locality
pub mod Live
