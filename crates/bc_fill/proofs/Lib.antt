pub mod Opens
pub mod Freshness
pub mod Listed
pub mod Taken
