pub mod Fetch
pub use Rattle.bc_sight.specs.bc_deed
pub use Rattle.bc_fetched.specs as bc_fetched
pub use Rattle.bc_sight.specs.bc_hand
pub use Rattle.bc_sight.specs.bc_machine
