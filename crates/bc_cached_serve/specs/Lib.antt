pub mod Refusals
pub mod Deeds
pub mod Worker
pub mod Answered
pub mod Served
pub mod Run
pub use Rattle.bc_flush.specs.bc_request
pub use Rattle.bc_serve.specs as bc_serve
pub use Rattle.bc_serve.specs.bc_deed
pub use Rattle.bc_serve.specs.bc_hand
pub use Rattle.bc_serve.specs.bc_job
pub use Rattle.bc_serve.specs.bc_machine
pub use Rattle.bc_session.specs as bc_session
pub use Rattle.bc_session.specs.bc_begun
pub use Rattle.bc_session.specs.bc_cached
pub use Rattle.bc_session.specs.bc_chosen
pub use Rattle.bc_session.specs.bc_loaded
pub use Rattle.bc_session.specs.bc_regrow
pub use Rattle.bc_session.specs.bc_started
