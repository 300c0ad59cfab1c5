mod Clearing
pub use Rattle.bc_candidate.proofs as of_bc_candidate
pub use Rattle.bc_candidate.proofs.of_bc_deed
pub use Rattle.bc_candidate.proofs.of_bc_hand
pub use Rattle.bc_candidate.proofs.of_bc_place
