pub mod Writes
pub mod Parents
pub mod Examples
