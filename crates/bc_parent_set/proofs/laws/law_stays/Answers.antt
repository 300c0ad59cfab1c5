use Rattle.bc_parent_set.proofs.Keeping.{law_stays}
use Rattle.bc_parent_set.proofs.laws.law_stays.Goals as goal

pub returns : goal.returns
returns c = law_stays
