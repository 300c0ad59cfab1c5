pub mod Parts
pub mod Pins
pub mod Inside
pub mod Raising
pub mod Joined
pub mod Goes
pub mod Put
pub mod All
pub mod Chain
pub mod Touched
pub mod Going
pub mod Core
pub mod Law
pub use Rattle.bc_machine.proofs as of_bc_machine
