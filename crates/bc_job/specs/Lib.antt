pub mod Asked
pub mod Refusals
pub mod Deeds
pub mod Pieces
pub mod Requests
pub use Rattle.bc_deed.specs as bc_deed
pub use Rattle.bc_deed.specs.bc_hand
pub use Rattle.bc_deed.specs.bc_machine
