pub mod Marks
pub mod Oldest
pub mod Lists
pub mod Slots
pub mod Waiting
pub mod Parts
