pub mod All
pub use Rattle.bc_held.specs.bc_deed
pub use Rattle.bc_held.specs.bc_place
pub use Rattle.bc_held.specs.bc_hand
pub use Rattle.bc_held.specs.bc_machine
pub use Rattle.bc_held.specs as bc_held
