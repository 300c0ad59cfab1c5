pub mod Looks
pub use Rattle.bc_machine.specs as bc_machine
