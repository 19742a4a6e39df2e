pub mod EdgeMap
pub mod Parts
pub mod Pushes
pub mod PushParts
pub mod PushRows
