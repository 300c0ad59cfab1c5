pub mod Since
pub mod Entry
pub mod Law
pub mod Next
pub mod Safe
pub use Rattle.bc_ranges.proofs as of_bc_ranges
pub use Rattle.bc_reopened.proofs as of_bc_reopened
