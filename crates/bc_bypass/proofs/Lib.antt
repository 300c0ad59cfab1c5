mod Emptying
mod Dirt
mod Room
mod Coming
mod Passing
pub use Rattle.bc_around.proofs as of_bc_around
pub use Rattle.bc_write_back.proofs as of_bc_write_back
