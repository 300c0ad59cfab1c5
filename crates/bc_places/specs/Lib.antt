pub mod Stands
pub mod Steps
pub mod Laws
pub mod Example
