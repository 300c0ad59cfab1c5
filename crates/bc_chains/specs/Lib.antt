pub mod Written
pub mod Laws
pub use Rattle.bc_machine.specs as bc_machine
