pub mod Numbers
pub mod Flying
pub mod Seeing
pub mod Between
pub mod Noting
pub mod Reading
mod Running
mod Dropping
mod InHand
mod Hands
pub use Rattle.bc_place.proofs as of_bc_place
pub use Rattle.bc_place.proofs.of_bc_deed
pub use Rattle.bc_place.proofs.of_bc_hand
pub use Rattle.bc_place.proofs.of_bc_machine
pub use Rattle.bc_sight.proofs as of_bc_sight
