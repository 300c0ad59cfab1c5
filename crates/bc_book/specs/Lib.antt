pub mod Pass
pub mod Filed
pub mod Book
