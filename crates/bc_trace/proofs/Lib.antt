pub mod Going
pub mod Parting
pub mod Ending
pub mod Leafing
mod Keeping
