pub mod Writing
pub mod Listing
pub mod Lexing
pub mod Words
pub mod Statements
pub mod Assembly
pub mod Said
pub mod Laws
