pub mod Nodes
pub mod Placed
pub mod Laws
