pub mod Room
pub mod Next
pub use Rattle.bc_settle.specs as bc_settle
