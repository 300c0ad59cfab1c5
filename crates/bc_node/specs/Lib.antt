pub mod Sets
pub mod Cause
pub mod Loading
pub mod Writing
pub mod Leaf
