pub mod Lists
pub mod Held
pub mod Tree
pub mod Acts
pub mod Law
