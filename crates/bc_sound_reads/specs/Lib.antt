pub mod Laws
pub use Rattle.bc_cached_serve.specs as bc_cached_serve
pub use Rattle.bc_cached_serve.specs.bc_serve
pub use Rattle.bc_cached_serve.specs.bc_deed
