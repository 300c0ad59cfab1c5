pub mod Takes
pub mod BySet
pub mod Laws
pub mod Write
pub use Rattle.bc_change.specs.bc_machine
pub use Rattle.bc_change.specs.bc_hand
pub use Rattle.bc_change.specs as bc_change
pub use Rattle.bc_change.specs.bc_deed
pub use Rattle.bc_change.specs.bc_looks
