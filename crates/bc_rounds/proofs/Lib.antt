pub mod Oldest
pub mod Settled
pub mod Rounds
pub mod Bytes
pub mod Rows
pub mod Unseen
pub use Rattle.bc_machine.proofs as of_bc_machine
