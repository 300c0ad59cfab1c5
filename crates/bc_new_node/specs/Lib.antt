pub mod Kind
pub mod Wrote
pub use Rattle.bc_held.specs.bc_place
pub use Rattle.bc_held.specs.bc_hand
pub use Rattle.bc_held.specs.bc_machine
pub use Rattle.bc_held.specs as bc_held
pub use Rattle.bc_drafts.specs as bc_drafts
