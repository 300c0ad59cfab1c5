use Rattle.bc_nodes_known.proofs.Law.{law_regroup}
use Rattle.bc_nodes_known.proofs.laws.law_regroup.Goals as goal

pub returns : goal.returns
returns c = law_regroup
