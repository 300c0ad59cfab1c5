use Rattle.bc_refusals.proofs.Opened.{law_goes_on}
use Rattle.bc_refusals.proofs.laws.law_goes_on.Goals as goal

pub returns : goal.returns
returns g c = law_goes_on g.C.Disk.facts g.B.Disk.facts
