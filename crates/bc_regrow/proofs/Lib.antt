pub mod Nodes
pub mod Walks
pub mod Loads
pub mod Told
