pub mod Calls
pub mod Low
pub mod Rooms
pub mod Following
