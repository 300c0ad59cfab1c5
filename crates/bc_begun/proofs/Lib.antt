pub mod Opened
pub mod Spine
pub mod Chain
pub mod Buckets
pub mod Ring
pub mod Journal
pub mod Said
pub mod Order
pub mod Leaves
pub mod Needs
pub mod Origin
pub use Rattle.bc_chosen.proofs as of_bc_chosen
pub use Rattle.bc_machine.proofs as of_bc_machine
pub use Rattle.bc_slots.proofs as of_bc_slots
