pub mod Course
pub mod Versions
pub mod Built
pub mod Behind
pub mod Sealing
pub mod Law
pub use Rattle.bc_chains.proofs.of_bc_machine
pub use Rattle.bc_renew.proofs as of_bc_renew
pub use Rattle.bc_chains.proofs as of_bc_chains
