use Rattle.bc_refusals.proofs.Found.{law_node}
use Rattle.bc_refusals.proofs.laws.law_node.Goals as goal

pub returns : goal.returns
returns g c = law_node g.C.Disk.facts g.B.Disk.facts
