pub mod Empty
pub mod Backed
pub mod Dropped
pub mod Invalidated
pub mod Piece
pub use Rattle.bc_around.specs as bc_around
pub use Rattle.bc_write_back.specs as bc_write_back
