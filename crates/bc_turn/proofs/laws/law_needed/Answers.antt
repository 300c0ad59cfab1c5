use Rattle.bc_turn.proofs.Needing.{law_needed}
use Rattle.bc_turn.proofs.laws.law_needed.Goals as goal

pub returns : goal.returns
returns g c = law_needed g.C.Disk.facts g.B.Disk.facts
