pub mod RangeLemmas
pub mod TableLemmas
pub mod MadeLemmas
mod EditedLemmas
mod BlockLemmas
mod HousedLemmas
mod ArrayLemmas
