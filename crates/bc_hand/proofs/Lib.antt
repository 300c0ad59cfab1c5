pub mod Knowing
pub mod Lending
pub mod Lends
pub mod Between
pub use Rattle.bc_machine.proofs as of_bc_machine
