pub mod Tails
