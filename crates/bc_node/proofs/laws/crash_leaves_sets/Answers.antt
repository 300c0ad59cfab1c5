use Rattle.bc_node.proofs.Rows.{sets_left}
use Rattle.bc_node.proofs.laws.crash_leaves_sets.Goals as goal

pub returns : goal.returns
returns c = sets_left
