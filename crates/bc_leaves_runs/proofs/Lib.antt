pub mod Reopen
pub mod Replay
pub mod Example
pub mod Refused
