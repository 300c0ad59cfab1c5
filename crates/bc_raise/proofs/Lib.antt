pub mod Fitting
pub mod Steps
pub mod InHand
pub mod Many
pub use Rattle.bc_held.proofs as of_bc_held
pub use Rattle.bc_held.proofs.of_bc_place as of_bc_place
pub use Rattle.bc_held.proofs.of_bc_deed
pub use Rattle.bc_held.proofs.of_bc_hand
pub use Rattle.bc_held.proofs.of_bc_place.of_bc_machine
pub use Rattle.bc_renew.proofs as of_bc_renew
