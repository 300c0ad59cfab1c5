pub mod Acts
pub mod Ring
pub mod Read
pub mod Stage
pub use Rattle.bc_machine.proofs as of_bc_machine
