pub mod Noting
pub mod Baring
pub mod Viewing
pub mod Buckets
