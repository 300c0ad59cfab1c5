use Rattle.bc_nodes_known.proofs.Law.{law_append}
use Rattle.bc_nodes_known.proofs.laws.law_append.Goals as goal

pub returns : goal.returns
returns c = law_append
