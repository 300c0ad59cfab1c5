pub mod Room
pub mod Put
pub mod Claimed
pub mod Piece
pub use Rattle.bc_request.specs as bc_request
pub use Rattle.bc_stored.specs.bc_place
pub use Rattle.bc_stored.specs.bc_insert
pub use Rattle.bc_room.specs as bc_room
pub use Rattle.bc_job.specs.bc_hand
pub use Rattle.bc_job.specs.bc_deed
pub use Rattle.bc_job.specs.bc_machine
pub use Rattle.bc_request.specs.bc_sight
