use Rattle.bc_nodes_known.proofs.Law.{law_bare}
use Rattle.bc_nodes_known.proofs.laws.law_bare.Goals as goal

pub returns : goal.returns
returns c = law_bare
