pub mod Hands
pub mod Taken
pub mod Sets
pub mod Most
pub mod Named
pub mod Raised
pub mod Rooms
pub mod Refill
pub use Rattle.bc_new_chain.specs as bc_new_chain
pub use Rattle.bc_ready.specs as bc_ready
