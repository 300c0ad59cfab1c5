pub mod Set
pub mod Chain
pub mod Refusal
pub mod Reading
pub mod Writes
pub mod Records
pub mod Example
