pub mod Refusal
pub mod Done
