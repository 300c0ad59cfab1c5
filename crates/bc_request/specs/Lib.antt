pub mod Asked
pub mod Line
pub mod Piece
pub mod Refusals
pub use Rattle.bc_job.specs.bc_deed
pub use Rattle.bc_reader.specs.bc_fetch
pub use Rattle.bc_reader.specs.bc_fetched
pub use Rattle.bc_job.specs.bc_hand
pub use Rattle.bc_job.specs as bc_job
pub use Rattle.bc_job.specs.bc_machine
pub use Rattle.bc_reader.specs as bc_reader
pub use Rattle.bc_reader.specs.bc_reads
pub use Rattle.bc_reader.specs.bc_sight
