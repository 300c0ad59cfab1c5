use Rattle.bc_room.proofs.Reserved.{law_reserved}
use Rattle.bc_room.proofs.laws.law_reserved.Goals as goal

pub returns : goal.returns
returns g c = law_reserved g.C.Disk.facts g.B.Disk.facts
