pub mod Free
pub mod Ready
pub use Rattle.bc_raise.specs as bc_raise
pub use Rattle.bc_raise.specs.bc_renew
pub use Rattle.bc_raise.specs.bc_place
pub use Rattle.bc_raise.specs.bc_deed
pub use Rattle.bc_raise.specs.bc_hand
pub use Rattle.bc_raise.specs.bc_machine
