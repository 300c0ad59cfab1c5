use Rattle.bc_plain_laws.proofs.Promising.{law_promises}
use Rattle.bc_plain_laws.proofs.laws.law_promises.Goals as goal

pub returns : goal.returns
returns g c = law_promises g.C.Disk.facts g.B.Disk.facts
