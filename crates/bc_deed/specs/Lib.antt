pub mod Asked
pub mod Begun
pub mod Flushed
pub use Rattle.bc_hand.specs as bc_hand
pub use Rattle.bc_hand.specs.bc_machine
