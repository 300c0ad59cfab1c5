use Rattle.bc_turn.proofs.Known.{law_known}
use Rattle.bc_turn.proofs.laws.law_known.Goals as goal

pub returns : goal.returns
returns g c = law_known g.C.Disk.facts g.B.Disk.facts
