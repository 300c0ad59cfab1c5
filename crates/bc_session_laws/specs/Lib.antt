pub mod Events
pub mod Finished
pub mod Laws
pub use Rattle.bc_session.specs.bc_begun
pub use Rattle.bc_session.specs.bc_cached
pub use Rattle.bc_session.specs.bc_entered
pub use Rattle.bc_plain_laws.specs.bc_hand
pub use Rattle.bc_session.specs.bc_loaded
pub use Rattle.bc_recoverable.specs.bc_machine
pub use Rattle.bc_session.specs.bc_open
pub use Rattle.bc_plain_laws.specs as bc_plain_laws
pub use Rattle.bc_recoverable.specs as bc_recoverable
pub use Rattle.bc_session.specs.bc_regrow
pub use Rattle.bc_session.specs as bc_session
pub use Rattle.bc_session.specs.bc_started
