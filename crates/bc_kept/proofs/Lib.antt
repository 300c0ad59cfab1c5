mod Going
pub use Rattle.bc_candidate.proofs as of_bc_candidate
pub use Rattle.bc_stored.proofs as of_bc_stored
pub use Rattle.bc_stored.proofs.of_bc_deed
pub use Rattle.bc_stored.proofs.of_bc_hand
pub use Rattle.bc_stored.proofs.of_bc_insert
pub use Rattle.bc_stored.proofs.of_bc_place
