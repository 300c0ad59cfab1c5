mod Lists
mod Holding
mod Going
mod Taking
mod Writing
mod Renewing
mod Finishing
mod Naming
mod Same
mod Raising
mod Promised
mod TopLevel
mod Alike
mod Filled
pub use Rattle.bc_new_chain.proofs as of_bc_new_chain
pub use Rattle.bc_ready.proofs as of_bc_ready
