use Rattle.bc_plain_laws.proofs.Promising.{law_legal}
use Rattle.bc_plain_laws.proofs.laws.law_legal.Goals as goal

pub returns : goal.returns
returns g c = law_legal g.C.Disk.facts g.B.Disk.facts
