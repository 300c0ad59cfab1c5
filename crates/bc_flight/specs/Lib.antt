pub mod Claims
pub mod Flight
pub mod Candidates
