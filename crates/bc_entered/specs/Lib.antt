pub mod Entry
pub mod Laws
pub mod Enter
pub use Rattle.bc_ranges.specs as bc_ranges
