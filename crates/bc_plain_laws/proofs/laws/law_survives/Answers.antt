use Rattle.bc_plain_laws.proofs.Promising.{law_survives}
use Rattle.bc_plain_laws.proofs.laws.law_survives.Goals as goal

pub returns : goal.returns
returns g c = law_survives g.C.Disk.facts g.B.Disk.facts
