pub mod Acts
pub mod Nodes
pub mod Parts
pub mod Rows
pub mod Law
