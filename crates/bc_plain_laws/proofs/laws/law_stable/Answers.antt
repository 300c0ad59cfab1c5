use Rattle.bc_plain_laws.proofs.Promising.{law_stable}
use Rattle.bc_plain_laws.proofs.laws.law_stable.Goals as goal

pub returns : goal.returns
returns g c = law_stable g.C.Disk.facts g.B.Disk.facts
