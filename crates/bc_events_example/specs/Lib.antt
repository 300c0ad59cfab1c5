pub mod Example
pub mod Uses
