pub mod Places
pub mod Pieces
pub mod Tables
pub mod Unique
