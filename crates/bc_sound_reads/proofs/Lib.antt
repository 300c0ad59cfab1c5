pub mod Over
pub mod Lines
pub mod Whole
pub use Rattle.bc_cached_serve.proofs.of_bc_serve
