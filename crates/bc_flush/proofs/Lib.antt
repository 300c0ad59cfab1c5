pub mod Counting
pub mod Walking
pub mod Putting
pub mod Noting
pub mod Hands
pub mod Syncing
pub mod Ending
pub mod Flushing
pub use Rattle.bc_entry.proofs.of_bc_deed
pub use Rattle.bc_entry.proofs as of_bc_entry
pub use Rattle.bc_entry.proofs.of_bc_hand
pub use Rattle.bc_entry.proofs.of_bc_machine
pub use Rattle.bc_request.proofs.of_bc_reader
pub use Rattle.bc_request.proofs.of_bc_sight
