pub mod State
pub mod Together
pub mod Run
pub mod Linked
pub mod Laws
pub mod Example
pub mod Uses
pub mod Teeth
