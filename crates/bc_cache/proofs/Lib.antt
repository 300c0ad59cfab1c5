pub mod Oldest
pub mod Changed
pub mod Stands
pub mod Pending
pub mod Copies
