pub mod Numbers
pub mod Around
pub mod Neighbours
pub mod ViewLemmas
pub mod Pairs
