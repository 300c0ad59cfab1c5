pub mod Chained
pub mod Laws
pub use Rattle.bc_renew.specs as bc_renew
pub use Rattle.bc_chains.specs as bc_chains
pub use Rattle.bc_chains.specs.bc_machine
