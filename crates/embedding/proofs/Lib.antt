pub mod CopyLemmas
pub mod Boxes
pub mod EditLists
pub mod SliceCounts
pub mod SortedArrays
pub mod RunValues
pub mod ListLemmas
