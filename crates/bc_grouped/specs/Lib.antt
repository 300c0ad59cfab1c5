pub mod Grouped
pub mod Touched
