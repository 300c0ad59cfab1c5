pub mod Killed
pub use Rattle.bc_candidate.specs as bc_candidate
pub use Rattle.bc_candidate.specs.bc_deed
pub use Rattle.bc_candidate.specs.bc_hand
pub use Rattle.bc_candidate.specs.bc_machine
pub use Rattle.bc_candidate.specs.bc_place
