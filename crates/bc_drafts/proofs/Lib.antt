pub mod Staying
