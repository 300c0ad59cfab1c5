use Rattle.bc_nodes_known.proofs.Law.{law_append_parent}
use Rattle.bc_nodes_known.proofs.laws.law_append_parent.Goals as goal

pub returns : goal.returns
returns c = law_append_parent
