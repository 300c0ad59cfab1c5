pub mod Left
pub mod Open
pub mod Close
pub mod Idle
pub use Rattle.bc_entered.specs as bc_entered
pub use Rattle.bc_entered.specs.bc_ranges
