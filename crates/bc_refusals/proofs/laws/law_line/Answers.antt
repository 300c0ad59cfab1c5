use Rattle.bc_refusals.proofs.Lines.{law_line}
use Rattle.bc_refusals.proofs.laws.law_line.Goals as goal

pub returns : goal.returns
returns g c = law_line g.C.Disk.facts g.B.Disk.facts
