pub mod LeafWords
pub mod NodeLists
pub mod Lent
pub mod Below
pub mod RowLists
pub mod Roots
pub mod Undone
