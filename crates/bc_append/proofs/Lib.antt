pub mod Course
pub mod Turned
pub mod Held
pub mod Lasting
pub mod Sets
pub mod Leaf
pub mod Part
pub mod Taken
pub mod Spare
pub mod Behind
pub mod May
pub mod Standing
pub mod Changing
pub mod Sending
pub mod Returned
pub use Rattle.bc_place.proofs.of_bc_hand
pub use Rattle.bc_place.proofs as of_bc_place
pub use Rattle.bc_nodes_known.proofs as of_bc_nodes_known
