pub mod Program
pub mod Format
pub mod Reading
pub mod Laws
