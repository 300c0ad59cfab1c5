pub mod Lists
pub mod Rows
pub mod Roomed
pub mod Handed
