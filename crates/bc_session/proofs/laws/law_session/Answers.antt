use Rattle.bc_session.proofs.Seen.{law_session}
use Rattle.bc_session.proofs.laws.law_session.Goals as goal

pub returns : goal.returns
returns g c = law_session g.C.Disk.facts g.B.Disk.facts
