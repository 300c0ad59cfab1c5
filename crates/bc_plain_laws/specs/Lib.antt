pub mod Promises
pub mod Laws
pub mod Example
pub use Rattle.bc_hand.specs as bc_hand
pub use Rattle.bc_hand.specs.bc_machine
