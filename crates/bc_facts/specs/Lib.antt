pub mod Whole
pub mod Seen
pub mod Layout
pub mod Reads
pub mod Torn
pub mod Laws
pub mod Teeth
