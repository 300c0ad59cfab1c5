pub mod Alone
pub mod Keys
pub mod Walking
