pub mod Devices
pub mod May
pub mod Noting
pub mod Room
pub mod Joining
pub mod Claiming
pub mod Ending
pub mod Sequence
pub use Rattle.bc_hand.proofs as of_bc_hand
pub use Rattle.bc_hand.proofs.of_bc_machine
