pub mod Claimed
pub mod Deeds
pub mod Known
pub mod Look
pub mod Noted
pub mod Runs
pub use Rattle.bc_fetch.specs as bc_fetch
pub use Rattle.bc_fetch.specs.bc_fetched
pub use Rattle.bc_reads.specs as bc_reads
pub use Rattle.bc_reads.specs.bc_sight
