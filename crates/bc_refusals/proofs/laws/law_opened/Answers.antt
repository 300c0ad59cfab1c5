use Rattle.bc_refusals.proofs.Opened.{law_opened}
use Rattle.bc_refusals.proofs.laws.law_opened.Goals as goal

pub returns : goal.returns
returns g c = law_opened g.C.Disk.facts g.B.Disk.facts
