pub mod Lists
pub mod Steps
pub mod Slots
pub mod Acts
pub mod Start
pub mod Read
pub mod Law
