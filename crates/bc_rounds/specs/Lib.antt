pub mod Rows
pub mod Rounds
pub mod Unseen
pub use Rattle.bc_machine.specs as bc_machine
