use Rattle.bc_session_laws.proofs.Closed.{law_closed}
use Rattle.bc_session_laws.proofs.laws.law_closed.Goals as goal

pub returns : goal.returns
returns g c = law_closed g.C.Disk.facts g.B.Disk.facts g.B.Disk.honest
