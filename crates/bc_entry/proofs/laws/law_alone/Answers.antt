use Rattle.bc_entry.proofs.Begun.{law_alone}
use Rattle.bc_entry.proofs.laws.law_alone.Goals as goal

pub returns : goal.returns
returns g c = law_alone g.C.Disk.facts g.B.Disk.facts
