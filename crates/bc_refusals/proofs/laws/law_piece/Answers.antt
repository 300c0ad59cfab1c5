use Rattle.bc_refusals.proofs.Lines.{law_piece}
use Rattle.bc_refusals.proofs.laws.law_piece.Goals as goal

pub returns : goal.returns
returns g c = law_piece g.C.Disk.facts g.B.Disk.facts
