pub mod Free
pub mod Fitting
pub mod Checks
pub mod Steps
pub use Rattle.bc_raise.proofs as of_bc_raise
pub use Rattle.bc_raise.proofs.of_bc_place
pub use Rattle.bc_raise.proofs.of_bc_deed
pub use Rattle.bc_raise.proofs.of_bc_hand
pub use Rattle.bc_raise.proofs.of_bc_machine
pub use Rattle.bc_raise.proofs.of_bc_renew
