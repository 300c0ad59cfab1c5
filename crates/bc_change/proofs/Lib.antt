pub mod Lists
pub mod Filled
pub mod Nexts
mod Said
pub mod Sites
pub mod Places
pub mod Begins
pub mod Left
pub mod Keeping
pub mod Turned
mod Rooting
mod Sealed
pub mod Seated
pub mod Going
pub mod Staying
mod Behind
pub use Rattle.bc_entry.proofs.of_bc_deed
pub use Rattle.bc_entry.proofs as of_bc_entry
pub use Rattle.bc_entry.proofs.of_bc_hand
pub use Rattle.bc_nodes_known.proofs as of_bc_nodes_known
