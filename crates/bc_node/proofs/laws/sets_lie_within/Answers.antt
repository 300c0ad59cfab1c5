use Rattle.bc_node.proofs.Rows.{sets_within}
use Rattle.bc_node.proofs.laws.sets_lie_within.Goals as goal

pub returns : goal.returns
returns c = sets_within
