use Rattle.bc_session_laws.proofs.Finished.{law_finished}
use Rattle.bc_session_laws.proofs.laws.law_finished.Goals as goal

pub returns : goal.returns
returns g c = law_finished g.C.Disk.facts g.B.Disk.facts g.B.Disk.honest
