pub mod Sight
pub mod Asked
pub use Rattle.bc_deed.specs as bc_deed
pub use Rattle.bc_deed.specs.bc_hand
pub use Rattle.bc_looks.specs.bc_machine
