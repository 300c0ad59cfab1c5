use Rattle.bc_session_laws.proofs.Made.{law_made}
use Rattle.bc_session_laws.proofs.laws.law_made.Goals as goal

pub returns : goal.returns
returns g c = law_made g.C.Disk.facts g.B.Disk.facts
