pub mod SetBytes
pub mod Example
pub mod Records
