pub mod TableLemmas
pub mod LeftLemmas
pub mod RunLemmas
pub mod WorkLemmas
pub mod WorldLemmas
