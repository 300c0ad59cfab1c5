pub mod Still
pub mod Store
pub mod Law
pub mod Events
pub mod Teeth
