pub mod Firm
pub mod Laws
pub use Rattle.bc_deed.specs as bc_deed
pub use Rattle.bc_deed.specs.bc_hand
pub use Rattle.bc_deed.specs.bc_machine
