use Rattle.bc_nodes_known.proofs.Law.{law_unnamed}
use Rattle.bc_nodes_known.proofs.laws.law_unnamed.Goals as goal

pub returns : goal.returns
returns c = law_unnamed
