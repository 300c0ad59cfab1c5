pub mod Steps
pub use Rattle.bc_place.specs as bc_place
pub use Rattle.bc_place.specs.bc_deed
pub use Rattle.bc_place.specs.bc_hand
pub use Rattle.bc_place.specs.bc_machine
pub use Rattle.bc_rounds.specs as bc_rounds
