pub mod Bucket
pub mod Buckets
pub mod Walk
pub mod Meaning
