pub mod Raise
pub use Rattle.bc_held.specs as bc_held
pub use Rattle.bc_held.specs.bc_place as bc_place
pub use Rattle.bc_held.specs.bc_deed
pub use Rattle.bc_held.specs.bc_hand
pub use Rattle.bc_held.specs.bc_machine
pub use Rattle.bc_renew.specs as bc_renew
