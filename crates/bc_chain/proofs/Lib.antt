pub mod Device
pub mod Writing
pub use Rattle.bc_chains.proofs as of_bc_chains
pub use Rattle.bc_place.proofs as of_bc_place
pub use Rattle.bc_place.proofs.of_bc_deed
pub use Rattle.bc_place.proofs.of_bc_hand
pub use Rattle.bc_place.proofs.of_bc_machine
