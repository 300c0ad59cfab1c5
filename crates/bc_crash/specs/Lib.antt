pub mod Laws
pub mod Reached
pub mod Tables
pub mod Invariant
pub mod Kept
pub mod Teeth
pub mod Next
