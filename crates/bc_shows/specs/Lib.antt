pub mod On
pub mod Laws
pub mod Events
pub mod Teeth
