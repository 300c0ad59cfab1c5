pub mod Closed
pub mod Made
pub mod Runs
pub use Rattle.bc_chosen.specs as bc_chosen
pub use Rattle.bc_dirty_laws.specs.bc_machine
pub use Rattle.bc_reopened.specs.bc_ranges
pub use Rattle.bc_reopened.specs.bc_sound
