pub mod Storing
pub mod Ready
pub mod Letting
pub mod Filling
pub use Rattle.bc_insert.proofs.of_bc_deed
pub use Rattle.bc_insert.proofs.of_bc_hand
pub use Rattle.bc_insert.proofs as of_bc_insert
pub use Rattle.bc_insert.proofs.of_bc_place
