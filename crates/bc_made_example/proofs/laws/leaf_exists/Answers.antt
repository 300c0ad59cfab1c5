use Rattle.bc_made_example.proofs.Node.{has_leaf}
use Rattle.bc_made_example.proofs.laws.leaf_exists.Goals as goal

pub returns : goal.returns
returns c = has_leaf
