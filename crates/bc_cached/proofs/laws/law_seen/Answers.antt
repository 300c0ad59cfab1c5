use Rattle.bc_cached.proofs.Seen.{law_seen}
use Rattle.bc_cached.proofs.laws.law_seen.Goals as goal

pub returns : goal.returns
returns g c = law_seen g.C.Disk.facts g.B.Disk.facts
