pub mod Holding
pub mod Under
pub mod Sequence
pub mod Ready
pub mod Looping
pub use Rattle.bc_deed.proofs as of_bc_deed
pub use Rattle.bc_deed.proofs.of_bc_hand
pub use Rattle.bc_deed.proofs.of_bc_machine
