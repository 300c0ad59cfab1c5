mod First
mod Starts
mod Standing
mod Came
mod Coming
pub mod Behind
mod Doing
pub mod Brought
pub mod Covered
mod Said
mod Device
mod Parts
mod Sending
mod Returned
pub use Rattle.bc_held.proofs.of_bc_place
pub use Rattle.bc_held.proofs.of_bc_hand
pub use Rattle.bc_held.proofs as of_bc_held
pub use Rattle.bc_drafts.proofs as of_bc_drafts
