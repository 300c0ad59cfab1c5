use Rattle.bc_begun.proofs.Origin.{law_origin}
use Rattle.bc_begun.proofs.laws.law_origin.Goals as goal

pub returns : goal.returns
returns g c = law_origin g.C.Disk.facts g.B.Disk.facts
