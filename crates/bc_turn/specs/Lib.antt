pub mod Need
pub mod Heard
pub mod Laws
pub mod Empty
pub mod Part
pub mod Parts
pub mod Needed
pub use Rattle.bc_append.specs.bc_place
