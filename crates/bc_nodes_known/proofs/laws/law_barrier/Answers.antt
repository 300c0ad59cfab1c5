use Rattle.bc_nodes_known.proofs.Law.{law_barrier}
use Rattle.bc_nodes_known.proofs.laws.law_barrier.Goals as goal

pub returns : goal.returns
returns c = law_barrier
