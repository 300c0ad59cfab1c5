pub mod Course
pub mod Kept
pub mod Made
pub mod Closed
pub mod Finished
pub use Rattle.bc_session.proofs.of_bc_open
pub use Rattle.bc_session.proofs as of_bc_session
