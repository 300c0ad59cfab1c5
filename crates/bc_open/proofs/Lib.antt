pub mod States
pub mod Left
pub mod Marked
pub mod Odd
pub mod Search
pub mod Exits
pub mod Stops
pub use Rattle.bc_entered.proofs as of_bc_entered
pub use Rattle.bc_entered.proofs.of_bc_ranges
pub use Rattle.bc_entered.proofs.of_bc_reopened
