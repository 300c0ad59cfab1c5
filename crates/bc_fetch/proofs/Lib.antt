pub mod Slots
pub mod Reading
pub mod Fetching
pub mod Ways
pub use Rattle.bc_sight.proofs.of_bc_deed
pub use Rattle.bc_fetched.proofs as of_bc_fetched
pub use Rattle.bc_sight.proofs.of_bc_hand
