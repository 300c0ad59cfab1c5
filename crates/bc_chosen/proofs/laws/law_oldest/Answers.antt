use Rattle.bc_chosen.proofs.Oldest.{law_oldest}
use Rattle.bc_chosen.proofs.laws.law_oldest.Goals as goal

pub returns : goal.returns
returns c = law_oldest
