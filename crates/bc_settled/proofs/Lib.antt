pub mod Hands
pub mod Coming
