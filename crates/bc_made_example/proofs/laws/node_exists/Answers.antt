use Rattle.bc_made_example.proofs.Node.{has_node}
use Rattle.bc_made_example.proofs.laws.node_exists.Goals as goal

pub returns : goal.returns
returns c = has_node
