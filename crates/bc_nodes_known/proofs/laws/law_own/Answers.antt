use Rattle.bc_nodes_known.proofs.Law.{law_own}
use Rattle.bc_nodes_known.proofs.laws.law_own.Goals as goal

pub returns : goal.returns
returns c = law_own
