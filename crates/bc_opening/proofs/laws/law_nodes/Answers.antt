use Rattle.bc_opening.proofs.Opened.{law_nodes}
use Rattle.bc_opening.proofs.laws.law_nodes.Goals as goal

pub returns : goal.returns
returns c = law_nodes
