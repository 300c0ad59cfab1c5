pub mod Flags
pub mod State
