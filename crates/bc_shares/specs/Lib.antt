pub mod Shares
pub mod Touched
pub mod Laws
