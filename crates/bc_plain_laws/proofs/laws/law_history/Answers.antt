use Rattle.bc_plain_laws.proofs.Promising.{law_history}
use Rattle.bc_plain_laws.proofs.laws.law_history.Goals as goal

pub returns : goal.returns
returns g c = law_history g.C.Disk.facts g.B.Disk.facts
