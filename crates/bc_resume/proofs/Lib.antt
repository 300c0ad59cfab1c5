pub mod Greatest
pub mod Next
pub mod Held
