pub mod Dirty
pub use Rattle.bc_looks.specs.bc_machine
