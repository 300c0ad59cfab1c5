pub mod ChildLists
pub mod Covers
pub mod Nodes
