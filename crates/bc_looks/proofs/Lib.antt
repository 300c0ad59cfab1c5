mod Keys
pub mod Slots
pub mod Law
pub use Rattle.bc_machine.proofs as of_bc_machine
