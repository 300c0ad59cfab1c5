pub mod Law
pub use Rattle.bc_looks.proofs as of_bc_looks
