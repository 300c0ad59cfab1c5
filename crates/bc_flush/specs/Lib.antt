pub mod Durable
pub mod Refusals
pub mod Sync
pub mod Flushed
pub mod Laws
pub use Rattle.bc_entry.specs.bc_deed
pub use Rattle.bc_entry.specs.bc_hand
pub use Rattle.bc_entry.specs.bc_machine
pub use Rattle.bc_request.specs as bc_request
pub use Rattle.bc_request.specs.bc_fetch
pub use Rattle.bc_request.specs.bc_job
pub use Rattle.bc_request.specs.bc_reader
pub use Rattle.bc_request.specs.bc_reads
pub use Rattle.bc_request.specs.bc_sight
