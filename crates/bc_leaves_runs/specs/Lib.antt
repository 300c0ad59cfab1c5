pub mod Reopen
pub mod Example
pub mod Teeth
