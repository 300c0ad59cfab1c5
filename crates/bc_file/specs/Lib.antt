pub mod Counts
pub mod FileDisk
pub mod Stream
pub mod Size
