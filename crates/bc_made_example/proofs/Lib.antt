pub mod Insert
pub mod Bytes
pub mod Node
