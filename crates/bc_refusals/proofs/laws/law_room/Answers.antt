use Rattle.bc_refusals.proofs.Room.{law_room}
use Rattle.bc_refusals.proofs.laws.law_room.Goals as goal

pub returns : goal.returns
returns c = law_room
