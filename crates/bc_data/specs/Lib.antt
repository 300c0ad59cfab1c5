pub mod Seats
pub mod Data
pub mod Enabled
pub mod After
pub mod Invariant
pub mod Laws
pub mod Example
pub mod Teeth
