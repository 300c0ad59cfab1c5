pub mod Loaded
pub use Rattle.bc_regrow.specs as bc_regrow
pub use Rattle.bc_slots.specs as bc_slots
