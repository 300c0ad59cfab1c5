use Rattle.bc_session.proofs.Seen.{law_rests}
use Rattle.bc_session.proofs.laws.law_rests.Goals as goal

pub returns : goal.returns
returns g c = law_rests g.C.Disk.facts g.B.Disk.facts
