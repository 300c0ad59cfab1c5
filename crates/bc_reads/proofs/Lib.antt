pub mod Said
pub mod Still
pub use Rattle.bc_sight.proofs.of_bc_looks
pub use Rattle.bc_sight.proofs as of_bc_sight
