pub mod Batches
pub mod Beginnings
pub mod Below
pub mod Pasts
pub mod HomeLemmas
pub mod Epochs
