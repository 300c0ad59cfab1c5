pub mod Ordered
pub mod Waiting
