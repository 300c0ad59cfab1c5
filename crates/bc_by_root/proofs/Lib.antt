pub mod Copied
pub mod Later
pub mod Named
pub mod Sealing
pub mod Handed
pub mod Before
pub mod Putting
pub mod Around
pub mod Waiting
pub use Rattle.bc_install.proofs as of_bc_install
