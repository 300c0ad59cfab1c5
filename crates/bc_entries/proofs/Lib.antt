pub mod There
pub mod Taken
pub mod Lists
pub mod Rooms
pub mod Held
pub mod OneAnswer
