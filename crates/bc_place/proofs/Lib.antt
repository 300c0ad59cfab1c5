pub mod Counting
pub mod Parts
pub mod Taking
pub mod Pinning
pub mod Unpinning
pub mod Going
pub mod Knowing
mod Rows
pub mod Keeping
mod Counts
mod Cutting
mod Fitting
mod Steps
mod Placing
pub mod Storing
mod Naming
pub mod Inserting
pub mod Marking
pub mod Saying
pub use Rattle.bc_deed.proofs as of_bc_deed
pub use Rattle.bc_deed.proofs.of_bc_hand
pub use Rattle.bc_deed.proofs.of_bc_machine
