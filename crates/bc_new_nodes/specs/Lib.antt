pub mod Asked
pub mod Wrote
pub mod Course
pub use Rattle.bc_new_node.specs.bc_place
pub use Rattle.bc_new_node.specs.bc_hand
pub use Rattle.bc_new_node.specs.bc_machine
pub use Rattle.bc_new_node.specs.bc_held
pub use Rattle.bc_new_node.specs as bc_new_node
pub use Rattle.bc_held_all.specs as bc_held_all
