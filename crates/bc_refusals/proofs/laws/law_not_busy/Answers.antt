use Rattle.bc_refusals.proofs.Room.{law_not_busy}
use Rattle.bc_refusals.proofs.laws.law_not_busy.Goals as goal

pub returns : goal.returns
returns g c = law_not_busy g.C.Disk.facts g.B.Disk.facts
