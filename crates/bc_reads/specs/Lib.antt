pub mod Reads
pub mod Laws
pub use Rattle.bc_sight.specs as bc_sight
