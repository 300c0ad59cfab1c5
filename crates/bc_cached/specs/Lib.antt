pub mod Begun
pub mod Laws
pub use Rattle.bc_begun.specs as bc_begun
pub use Rattle.bc_begun.specs.bc_chosen
pub use Rattle.bc_deed.specs as bc_deed
pub use Rattle.bc_deed.specs.bc_hand
pub use Rattle.bc_begun.specs.bc_machine
pub use Rattle.bc_begun.specs.bc_slots
