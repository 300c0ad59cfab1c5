use Rattle.bc_refusals.proofs.Leaves.{law_outside}
use Rattle.bc_refusals.proofs.laws.law_outside.Goals as goal

pub returns : goal.returns
returns g c = law_outside g.C.Disk.facts g.B.Disk.facts
