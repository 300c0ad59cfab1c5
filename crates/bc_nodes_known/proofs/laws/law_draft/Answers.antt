use Rattle.bc_nodes_known.proofs.Law.{law_draft}
use Rattle.bc_nodes_known.proofs.laws.law_draft.Goals as goal

pub returns : goal.returns
returns c = law_draft
