use Rattle.bc_chosen.proofs.Lists.{law_lists}
use Rattle.bc_chosen.proofs.laws.law_lists.Goals as goal

pub returns : goal.returns
returns c = law_lists
