use Rattle.bc_nodes_known.proofs.Law.{law_still}
use Rattle.bc_nodes_known.proofs.laws.law_still.Goals as goal

pub returns : goal.returns
returns c = law_still
