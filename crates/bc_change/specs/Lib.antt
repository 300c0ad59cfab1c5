pub mod Goes
pub mod Ready
pub mod Under
pub mod Laws
pub mod Root
pub mod Put
pub use Rattle.bc_entry.specs.bc_machine
pub use Rattle.bc_entry.specs.bc_hand
pub use Rattle.bc_entry.specs as bc_entry
pub use Rattle.bc_entry.specs.bc_deed
pub use Rattle.bc_nodes_known.specs.bc_looks
