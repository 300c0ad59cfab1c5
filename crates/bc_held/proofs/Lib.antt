pub mod Steps
mod Rows
pub mod Keeping
mod Fresh
mod Lists
mod Many
mod Parting
mod Taking
mod LettingGo
pub mod Hands
pub mod Doing
pub use Rattle.bc_place.proofs.of_bc_deed
pub use Rattle.bc_place.proofs.of_bc_hand
pub use Rattle.bc_place.proofs as of_bc_place
