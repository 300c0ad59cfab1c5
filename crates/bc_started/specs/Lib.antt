pub mod First
pub mod Start
pub mod Stop
pub mod Laws
pub mod Stored
pub use Rattle.bc_cached.specs.bc_begun
pub use Rattle.bc_cached.specs as bc_cached
pub use Rattle.bc_cached.specs.bc_chosen
pub use Rattle.bc_entry.specs.bc_deed
pub use Rattle.bc_entry.specs as bc_entry
pub use Rattle.bc_entry.specs.bc_hand
pub use Rattle.bc_entry.specs.bc_machine
