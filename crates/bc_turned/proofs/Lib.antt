pub mod Giving
pub mod Turning
mod Hearing
mod Keeping
