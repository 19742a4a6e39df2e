pub mod Dealt
pub mod Refused
pub mod Applied
pub mod Splits
pub mod Pieces
