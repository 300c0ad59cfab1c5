pub mod Laws
pub use Rattle.bc_ranges.specs as bc_ranges
pub use Rattle.bc_sound.specs as bc_sound
