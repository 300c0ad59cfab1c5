pub mod Fits
pub mod Next
pub mod Settle
pub use Rattle.bc_candidate.specs as bc_candidate
pub use Rattle.bc_insert.specs as bc_insert
pub use Rattle.bc_insert.specs.bc_deed
pub use Rattle.bc_insert.specs.bc_hand
pub use Rattle.bc_insert.specs.bc_machine
pub use Rattle.bc_insert.specs.bc_place
pub use Rattle.bc_firm.specs as bc_firm
