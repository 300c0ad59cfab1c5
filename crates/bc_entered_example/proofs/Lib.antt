pub mod Torn
pub mod Ready
pub mod Bytes
pub mod Example
