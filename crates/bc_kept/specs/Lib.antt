pub mod Kept
pub use Rattle.bc_candidate.specs as bc_candidate
pub use Rattle.bc_stored.specs as bc_stored
pub use Rattle.bc_stored.specs.bc_deed
pub use Rattle.bc_stored.specs.bc_hand
pub use Rattle.bc_stored.specs.bc_insert
pub use Rattle.bc_stored.specs.bc_machine
pub use Rattle.bc_stored.specs.bc_place
