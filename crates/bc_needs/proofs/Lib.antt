pub mod Untouched
pub mod Lasting
