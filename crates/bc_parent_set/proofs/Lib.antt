pub mod Taker
pub mod Children
mod Begun
mod Sets
mod Spare
mod Behind
mod Settled
pub mod Keeping
mod May
pub mod Seated
pub mod Sent
pub use Rattle.bc_change.proofs as of_bc_change
