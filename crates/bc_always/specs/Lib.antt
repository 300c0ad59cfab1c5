pub mod Crash
pub mod Raise
pub mod Claims
pub mod Entries
