pub mod Way
pub mod Leaf
