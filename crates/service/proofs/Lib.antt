pub mod Following
pub mod FirstLines
pub mod KnownLemmas
pub mod LineLemmas
pub mod RoundLemmas
pub mod EndLemmas
pub mod AskingLemmas
