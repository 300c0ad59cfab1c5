pub mod Lists
pub mod Rows
pub mod Flags
pub mod Exchanges
pub mod Alike
