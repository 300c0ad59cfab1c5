use Rattle.bc_refusals.proofs.Leaves.{law_missing}
use Rattle.bc_refusals.proofs.laws.law_missing.Goals as goal

pub returns : goal.returns
returns g c = law_missing g.C.Disk.facts g.B.Disk.facts
