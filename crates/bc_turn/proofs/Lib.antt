pub mod Lasting
pub mod Told
pub mod Known
pub mod Leaving
mod Still
pub mod Hearing
pub mod Slots
pub mod Needing
pub mod Emptying
pub mod Parting
pub use Rattle.bc_append.proofs.of_bc_place
