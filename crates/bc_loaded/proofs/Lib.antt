pub mod Fit
pub mod Held
pub mod Leaves
pub use Rattle.bc_slots.proofs as of_bc_slots
