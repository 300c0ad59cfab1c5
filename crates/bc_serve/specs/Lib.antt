pub mod Refusals
pub mod Closed
pub mod Causes
pub mod Deeds
pub mod Answered
pub mod Run
pub use Rattle.bc_job.specs.bc_deed
pub use Rattle.bc_plain_laws.specs.bc_hand
pub use Rattle.bc_job.specs as bc_job
pub use Rattle.bc_plain_laws.specs.bc_machine
