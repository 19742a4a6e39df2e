pub mod States
pub mod Called
pub mod Memory
pub mod Described
pub mod Laws
pub mod Joining
