use Rattle.bc_started.proofs.Alone.{own_all}
use Rattle.bc_started.proofs.laws.law_own.Goals as goal

pub returns : goal.returns
returns g c = own_all g.C.Disk.facts g.B.Disk.facts
