use Rattle.bc_nodes_known.proofs.Law.{law_nodes}
use Rattle.bc_nodes_known.proofs.laws.law_nodes.Goals as goal

pub returns : goal.returns
returns c = law_nodes
