use Rattle.bc_refusals.proofs.Lost.{law_lost}
use Rattle.bc_refusals.proofs.laws.law_lost.Goals as goal

pub returns : goal.returns
returns g c = law_lost g.C.Disk.facts g.B.Disk.facts
