use Rattle.bc_ranges.proofs.Law.{law_nodes}
use Rattle.bc_ranges.proofs.laws.law_nodes.Goals as goal

pub returns : goal.returns
returns c = law_nodes
