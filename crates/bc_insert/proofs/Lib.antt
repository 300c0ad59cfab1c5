pub mod Putting
pub mod Finding
pub mod InHand
pub mod Behind
pub mod Dropping
pub mod Dropped
pub mod Writing
pub mod Written
pub use Rattle.bc_place.proofs.of_bc_deed
pub use Rattle.bc_place.proofs.of_bc_hand
pub use Rattle.bc_place.proofs as of_bc_place
