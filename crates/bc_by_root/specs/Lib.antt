pub mod Given
pub mod Prepared
pub mod Done
pub use Rattle.bc_install.specs as bc_install
