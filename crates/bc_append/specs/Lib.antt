pub mod Durable
pub mod Append
pub use Rattle.bc_place.specs.bc_hand
pub use Rattle.bc_place.specs.bc_machine
pub use Rattle.bc_nodes_known.specs as bc_nodes_known
pub use Rattle.bc_place.specs as bc_place
