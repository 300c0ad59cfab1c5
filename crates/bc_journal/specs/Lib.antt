pub mod Ring
pub mod Sealed
pub mod Journal
pub mod Images
pub mod Example
