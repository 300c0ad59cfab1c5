mod Lists
mod Going
pub use Rattle.bc_held.proofs.of_bc_deed
pub use Rattle.bc_held.proofs.of_bc_hand
pub use Rattle.bc_held.proofs.of_bc_place
pub use Rattle.bc_held.proofs as of_bc_held
