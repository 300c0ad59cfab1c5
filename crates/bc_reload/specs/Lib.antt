pub mod Added
pub mod Reload
