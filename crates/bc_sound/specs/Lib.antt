pub mod Still
pub mod Laws
pub mod Events
pub mod Teeth
