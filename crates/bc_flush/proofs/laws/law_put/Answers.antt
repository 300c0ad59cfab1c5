use Rattle.bc_flush.proofs.Putting.{law_put}
use Rattle.bc_flush.proofs.laws.law_put.Goals as goal

pub returns : goal.returns
returns g c = law_put g.C.Disk.facts g.B.Disk.facts
