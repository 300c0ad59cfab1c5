pub mod Cutting
pub mod Sights
pub mod Keyed
mod Exact
pub mod Walked
pub mod Doing
pub use Rattle.bc_mark.proofs as of_bc_mark
pub use Rattle.bc_mark.proofs.of_bc_deed
pub use Rattle.bc_mark.proofs.of_bc_hand
pub use Rattle.bc_mark.proofs.of_bc_machine
pub use Rattle.bc_mark.proofs.of_bc_place
