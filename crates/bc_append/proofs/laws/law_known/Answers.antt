use Rattle.bc_append.proofs.Lasting.{law_known}
use Rattle.bc_append.proofs.laws.law_known.Goals as goal

pub returns : goal.returns
returns g c = law_known g.C.Disk.facts g.B.Disk.facts
