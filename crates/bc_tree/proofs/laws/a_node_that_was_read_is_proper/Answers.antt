use Rattle.bc_tree.proofs.Proper.{read_is_proper}
use Rattle.bc_tree.proofs.laws.a_node_that_was_read_is_proper.Goals as goal

pub returns : goal.returns
returns c = read_is_proper
