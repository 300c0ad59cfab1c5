pub mod Firming
pub mod Lasting
pub mod Within
mod Making
pub use Rattle.bc_deed.proofs as of_bc_deed
pub use Rattle.bc_deed.proofs.of_bc_hand
