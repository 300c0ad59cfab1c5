pub mod Next
pub mod Held
pub mod Taken
pub mod Laws
pub use Rattle.bc_place.specs.bc_deed
pub use Rattle.bc_place.specs.bc_hand
pub use Rattle.bc_place.specs.bc_machine
pub use Rattle.bc_place.specs as bc_place
