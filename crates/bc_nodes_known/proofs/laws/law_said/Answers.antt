use Rattle.bc_nodes_known.proofs.Law.{law_said}
use Rattle.bc_nodes_known.proofs.laws.law_said.Goals as goal

pub returns : goal.returns
returns c = law_said
