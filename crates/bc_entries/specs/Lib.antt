pub mod Lists
pub mod Journal
pub mod Reading
