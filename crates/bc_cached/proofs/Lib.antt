pub mod Beginning
pub mod Places
pub mod Seen
pub use Rattle.bc_begun.proofs.of_bc_chosen
pub use Rattle.bc_deed.proofs as of_bc_deed
pub use Rattle.bc_deed.proofs.of_bc_hand
pub use Rattle.bc_begun.proofs.of_bc_slots
