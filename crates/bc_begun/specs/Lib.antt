pub mod Opened
pub mod Begin
pub mod Laws
pub use Rattle.bc_chosen.specs as bc_chosen
pub use Rattle.bc_machine.specs as bc_machine
pub use Rattle.bc_slots.specs as bc_slots
