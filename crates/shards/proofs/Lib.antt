pub mod GroupLemmas
pub mod MergeLemmas
pub mod SingleLemmas
pub mod WordLemmas
pub mod PartLemmas
pub mod SearchLemmas
pub mod SizeLemmas
pub mod ShortLemmas
pub mod SplicedLemmas
pub mod ListLemmas
pub mod ReplacedLemmas
pub mod RunLemmas
pub mod PageLemmas
pub mod BegunLemmas
pub mod CutLemmas
pub mod CopiedLemmas
pub mod HomeLemmas
pub mod PutLemmas
pub mod FilledLemmas
pub mod ArrayLemmas
mod SeenLemmas
mod NearbyLemmas
