pub mod InHand
pub mod Lasting
pub mod Doing
pub mod Fitted
pub use Rattle.bc_place.proofs as of_bc_place
pub use Rattle.bc_place.proofs.of_bc_deed
pub use Rattle.bc_place.proofs.of_bc_hand
pub use Rattle.bc_place.proofs.of_bc_machine
pub use Rattle.bc_rounds.proofs as of_bc_rounds
