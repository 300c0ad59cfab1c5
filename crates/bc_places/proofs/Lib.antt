pub mod Lists
pub mod Ends
pub mod Open
pub mod Cut
pub mod Steps
pub mod Events
pub mod Others
pub mod Small
