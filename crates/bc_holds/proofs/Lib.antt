mod Steps
pub mod Law
