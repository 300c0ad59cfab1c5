pub mod Entry
pub mod Next
pub mod Begun
pub mod Written
