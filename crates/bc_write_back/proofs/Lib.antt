pub mod Walking
pub mod Going
pub mod Hands
pub mod Coming
pub use Rattle.bc_request.proofs as of_bc_request
pub use Rattle.bc_job.proofs as of_bc_job
pub use Rattle.bc_request.proofs.of_bc_reader
pub use Rattle.bc_room.proofs as of_bc_room
pub use Rattle.bc_job.proofs.of_bc_hand
pub use Rattle.bc_job.proofs.of_bc_deed
pub use Rattle.bc_stored.proofs.of_bc_insert
