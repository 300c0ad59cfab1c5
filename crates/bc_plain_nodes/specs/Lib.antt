pub mod Entries
pub mod Look
