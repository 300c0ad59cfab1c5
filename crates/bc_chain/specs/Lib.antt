pub mod Written
pub use Rattle.bc_chains.specs as bc_chains
pub use Rattle.bc_place.specs as bc_place
pub use Rattle.bc_place.specs.bc_deed
pub use Rattle.bc_place.specs.bc_hand
pub use Rattle.bc_place.specs.bc_machine
