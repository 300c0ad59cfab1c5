pub mod Sizes
pub mod Bytes
pub mod Journals
pub mod Members
pub mod Rows
pub mod Left
pub mod Sealing
pub mod Example
