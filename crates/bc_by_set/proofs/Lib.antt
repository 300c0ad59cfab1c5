mod With
pub mod Staying
pub mod Handed
mod Deciding
pub mod Asked
pub mod Setting
pub mod Around
pub use Rattle.bc_by_root.proofs as of_bc_by_root
