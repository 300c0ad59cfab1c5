pub mod Following
pub mod Entries
pub mod Halts
pub mod Opened
pub mod Outside
pub mod Devices
pub mod Promising
pub mod Example
pub use Rattle.bc_hand.proofs as of_bc_hand
pub use Rattle.bc_hand.proofs.of_bc_machine
