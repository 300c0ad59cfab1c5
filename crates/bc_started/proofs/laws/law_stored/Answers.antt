use Rattle.bc_started.proofs.Stored.{law_stored}
use Rattle.bc_started.proofs.laws.law_stored.Goals as goal

pub returns : goal.returns
returns g c = law_stored g.C.Disk.facts g.B.Disk.facts
