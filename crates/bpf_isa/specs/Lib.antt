pub mod Encoding
pub mod DecodeErrors
pub mod Reading
pub mod Sizes
