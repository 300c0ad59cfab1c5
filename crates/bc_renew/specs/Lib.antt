pub mod Raised
pub mod Goes
pub mod Ready
pub mod Laws
pub use Rattle.bc_machine.specs as bc_machine
