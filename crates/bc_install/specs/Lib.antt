pub mod RootPut
pub mod Installed
pub mod Numbered
pub mod Buckets
pub mod Ended
pub mod Ends
pub mod Step
pub use Rattle.bc_change.specs as bc_change
pub use Rattle.bc_append.specs.bc_machine
pub use Rattle.bc_change.specs.bc_entry
pub use Rattle.bc_append.specs.bc_hand
pub use Rattle.bc_change.specs.bc_deed
pub use Rattle.bc_append.specs as bc_append
pub use Rattle.bc_parent_set.specs as bc_parent_set
