use Rattle.bc_refusals.proofs.Lines.{law_no_node}
use Rattle.bc_refusals.proofs.laws.law_no_node.Goals as goal

pub returns : goal.returns
returns g c = law_no_node g.C.Disk.facts g.B.Disk.facts
