pub mod Walk
pub use Rattle.bc_dirty_laws.specs as bc_dirty_laws
pub use Rattle.bc_fetch.specs as bc_fetch
