pub mod Lists
pub mod Found
pub mod Sector
pub mod Law
pub mod Events
pub mod Keys
pub mod Teeth
