pub mod Stored
pub mod All
pub use Rattle.bc_insert.specs.bc_deed
pub use Rattle.bc_insert.specs.bc_hand
pub use Rattle.bc_insert.specs as bc_insert
pub use Rattle.bc_insert.specs.bc_machine
pub use Rattle.bc_insert.specs.bc_place
pub use Rattle.bc_insert.specs.bc_sight
