pub mod Open
pub mod Close
pub mod Finish
pub mod Idle
pub mod Laws
pub use Rattle.bc_started.specs.bc_begun
pub use Rattle.bc_started.specs.bc_cached
pub use Rattle.bc_started.specs.bc_chosen
pub use Rattle.bc_dirty.specs as bc_dirty
pub use Rattle.bc_open.specs.bc_entered
pub use Rattle.bc_started.specs.bc_entry
pub use Rattle.bc_loaded.specs as bc_loaded
pub use Rattle.bc_open.specs as bc_open
pub use Rattle.bc_open.specs.bc_ranges
pub use Rattle.bc_loaded.specs.bc_regrow
pub use Rattle.bc_loaded.specs.bc_slots
pub use Rattle.bc_started.specs as bc_started
