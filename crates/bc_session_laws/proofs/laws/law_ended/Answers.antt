use Rattle.bc_session_laws.proofs.Finished.{law_ended}
use Rattle.bc_session_laws.proofs.laws.law_ended.Goals as goal

pub returns : goal.returns
returns g c = law_ended g.C.Disk.facts g.B.Disk.facts g.B.Disk.honest
