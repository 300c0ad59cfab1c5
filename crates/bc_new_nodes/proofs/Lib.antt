mod Lists
mod Same
mod Only
mod There
mod SoFar
mod Stopped
mod Order
mod Starts
mod Pure
mod Ready
mod Settled
mod Ended
pub use Rattle.bc_change.proofs.of_bc_entry
pub use Rattle.bc_new_node.proofs.of_bc_place
pub use Rattle.bc_new_node.proofs.of_bc_hand
pub use Rattle.bc_new_node.proofs.of_bc_held
