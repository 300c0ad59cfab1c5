pub mod Oldest
pub mod Flying
pub mod Fitting
pub mod Placing
pub mod Naming
pub mod Keying
pub mod Settling
pub mod Keeping
pub mod Settled
pub mod Here
pub use Rattle.bc_insert.proofs as of_bc_insert
