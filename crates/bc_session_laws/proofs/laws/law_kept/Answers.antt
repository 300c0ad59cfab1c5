use Rattle.bc_session_laws.proofs.Kept.{law_kept}
use Rattle.bc_session_laws.proofs.laws.law_kept.Goals as goal

pub returns : goal.returns
returns g c = law_kept g.C.Disk.facts g.B.Disk.facts
