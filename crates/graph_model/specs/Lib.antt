pub mod Graph
pub mod Views
pub mod Laws
