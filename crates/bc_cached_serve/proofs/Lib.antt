pub mod Going
pub mod Stops
pub mod Claims
pub mod Lines
pub mod Nodes
pub mod Alone
pub mod Durable
pub mod Taken
pub mod Flushing
pub mod Order
pub mod Cutting
pub mod Whole
pub mod Opened
pub use Rattle.bc_serve.proofs as of_bc_serve
pub use Rattle.bc_session.proofs as of_bc_session
pub use Rattle.bc_session.proofs.of_bc_chosen
pub use Rattle.bc_session.proofs.of_bc_open
pub use Rattle.bc_session.proofs.of_bc_reopened
