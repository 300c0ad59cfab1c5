pub mod Stamps
pub mod Lists
pub mod Stopping
pub mod Answering
pub mod Lines
pub mod Failing
pub mod Whole
pub mod Promised
pub mod Counted
pub use Rattle.bc_job.proofs.of_bc_deed
pub use Rattle.bc_plain_laws.proofs.of_bc_hand
pub use Rattle.bc_job.proofs as of_bc_job
pub use Rattle.bc_plain_laws.proofs.of_bc_machine
