pub mod Course
pub mod Writing
pub mod Keeping
pub mod Law
pub use Rattle.bc_machine.proofs as of_bc_machine
