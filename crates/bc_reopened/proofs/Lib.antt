pub mod Law
pub use Rattle.bc_ranges.proofs as of_bc_ranges
pub use Rattle.bc_sound.proofs as of_bc_sound
