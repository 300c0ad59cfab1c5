mod Opened
mod Touching
mod Brought
mod Rooted
pub mod Keeping
mod Moved
mod Tree
mod Cached
pub mod Numbered
mod Listed
mod Each
pub mod Sides
mod Out
mod Coming
mod Placed
mod Ended
mod Bucketed
mod Installing
pub use Rattle.bc_change.proofs as of_bc_change
pub use Rattle.bc_change.proofs.of_bc_deed
pub use Rattle.bc_change.proofs.of_bc_entry
pub use Rattle.bc_change.proofs.of_bc_hand
pub use Rattle.bc_change.proofs.of_bc_nodes_known
pub use Rattle.bc_append.proofs as of_bc_append
pub use Rattle.bc_parent_set.proofs as of_bc_parent_set
