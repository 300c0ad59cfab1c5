pub mod Noted
pub mod Dead
pub mod Laws
pub use Rattle.bc_place.specs as bc_place
pub use Rattle.bc_place.specs.bc_deed
pub use Rattle.bc_place.specs.bc_hand
pub use Rattle.bc_place.specs.bc_machine
pub use Rattle.bc_sight.specs as bc_sight
