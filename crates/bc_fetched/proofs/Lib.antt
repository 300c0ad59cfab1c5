pub mod Settled
pub mod Law
