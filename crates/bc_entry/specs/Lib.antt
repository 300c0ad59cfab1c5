pub mod Failed
pub mod Entry
pub mod Seal
pub mod Put
pub mod Laws
pub use Rattle.bc_deed.specs as bc_deed
pub use Rattle.bc_deed.specs.bc_hand
pub use Rattle.bc_sealing.specs.bc_machine
pub use Rattle.bc_sealing.specs as bc_sealing
