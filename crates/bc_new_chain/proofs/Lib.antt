pub mod Keeping
pub mod State
pub mod Seated
pub mod InHand
pub mod Behind
pub mod Putting
pub use Rattle.bc_chain.proofs as of_bc_chain
pub use Rattle.bc_chained.proofs as of_bc_chained
pub use Rattle.bc_entry.proofs as of_bc_entry
pub use Rattle.bc_held.proofs as of_bc_held
pub use Rattle.bc_chain.proofs.of_bc_chains
pub use Rattle.bc_chain.proofs.of_bc_place
pub use Rattle.bc_chain.proofs.of_bc_deed
pub use Rattle.bc_chain.proofs.of_bc_hand
pub use Rattle.bc_chain.proofs.of_bc_machine
