pub mod Alone
pub mod Contents
pub mod Cut
pub mod Data
pub mod Left
pub mod Newest
pub mod Ready
pub mod Sectors
pub mod Stopped
pub mod Search
pub mod Seen
pub mod Ended
pub mod Stops
pub mod Final
pub use Rattle.bc_started.proofs.of_bc_chosen
pub use Rattle.bc_dirty.proofs as of_bc_dirty
pub use Rattle.bc_open.proofs.of_bc_entered
pub use Rattle.bc_open.proofs as of_bc_open
pub use Rattle.bc_open.proofs.of_bc_ranges
pub use Rattle.bc_open.proofs.of_bc_reopened
pub use Rattle.bc_loaded.proofs.of_bc_slots
