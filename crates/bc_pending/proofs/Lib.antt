pub mod Given
pub mod Sharing
pub mod Entries
