pub mod Places
pub mod Parts
pub mod Filling
pub mod Laws
pub use Rattle.bc_regrow.specs as bc_regrow
