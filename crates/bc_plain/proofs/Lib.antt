pub mod Devices
pub mod Entries
pub mod Images
pub mod Told
pub mod Listed
pub mod Selected
pub mod Frees
pub mod Spelled
pub mod Claims
pub mod Walks
mod Reserved
mod Vectors
