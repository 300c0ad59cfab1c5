use Rattle.bc_refusals.proofs.Room.{law_busy}
use Rattle.bc_refusals.proofs.laws.law_busy.Goals as goal

pub returns : goal.returns
returns g c = law_busy g.C.Disk.facts g.B.Disk.facts
