pub mod Adding
pub mod Reloaded
