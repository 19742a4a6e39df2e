pub mod Ties
pub mod LentLemmas
pub mod WordLemmas
