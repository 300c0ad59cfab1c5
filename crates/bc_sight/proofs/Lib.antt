pub mod Answering
pub mod Claims
pub mod Held
pub mod Looking
pub mod Reading
pub use Rattle.bc_deed.proofs as of_bc_deed
pub use Rattle.bc_deed.proofs.of_bc_hand
pub use Rattle.bc_looks.proofs as of_bc_looks
