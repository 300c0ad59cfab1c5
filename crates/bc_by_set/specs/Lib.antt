pub mod Given
pub mod Prepared
pub mod Done
pub use Rattle.bc_by_root.specs as bc_by_root
