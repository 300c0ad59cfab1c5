pub mod Pieces
pub mod Steps
pub use Rattle.bc_mark.specs as bc_mark
pub use Rattle.bc_mark.specs.bc_deed
pub use Rattle.bc_mark.specs.bc_hand
pub use Rattle.bc_mark.specs.bc_machine
pub use Rattle.bc_mark.specs.bc_place
