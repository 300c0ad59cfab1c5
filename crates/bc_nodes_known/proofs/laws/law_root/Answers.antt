use Rattle.bc_nodes_known.proofs.Law.{law_root}
use Rattle.bc_nodes_known.proofs.laws.law_root.Goals as goal

pub returns : goal.returns
returns c = law_root
