pub mod Read
pub mod Choices
pub mod Opening
pub mod Alike
pub mod Laws
pub mod Cut
pub mod Ring
pub mod Nodes
