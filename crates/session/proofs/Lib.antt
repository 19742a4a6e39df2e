pub mod Frontiers
pub mod BatchLemmas
pub mod RunLemmas
pub mod NamedColumns
pub mod LentLemmas
pub mod Unpublished
