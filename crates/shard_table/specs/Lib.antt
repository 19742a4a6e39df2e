pub mod Table
pub mod Blocks
pub mod Made
pub mod Arrays
