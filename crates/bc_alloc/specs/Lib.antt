pub mod Reserve
pub mod Reserves
pub mod Inside
pub mod Buckets
pub mod Victims
pub mod Choice
