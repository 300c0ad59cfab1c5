pub mod Read
pub mod Spare
pub mod Known
pub mod Opened
