pub mod Beside
pub mod Seal
pub mod Put
pub use Rattle.bc_chain.specs as bc_chain
pub use Rattle.bc_chained.specs as bc_chained
pub use Rattle.bc_entry.specs as bc_entry
pub use Rattle.bc_held.specs as bc_held
pub use Rattle.bc_chain.specs.bc_chains
pub use Rattle.bc_chain.specs.bc_place
pub use Rattle.bc_chain.specs.bc_deed
pub use Rattle.bc_chain.specs.bc_hand
pub use Rattle.bc_chain.specs.bc_machine
pub use Rattle.bc_chained.specs.bc_renew
