pub mod Fields
pub mod Division
pub mod Checksum
