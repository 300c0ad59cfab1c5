pub mod CacheDevice
pub mod Course
pub mod Holding
pub mod Allowed
pub mod Ending
pub mod Writing
pub mod Sealing
pub mod Putting
pub mod Begun
pub mod Waiting
pub use Rattle.bc_deed.proofs as of_bc_deed
pub use Rattle.bc_deed.proofs.of_bc_hand
pub use Rattle.bc_sealing.proofs.of_bc_machine
pub use Rattle.bc_sealing.proofs as of_bc_sealing
