use Rattle.bc_parent_set.proofs.Keeping.{law_by_set}
use Rattle.bc_parent_set.proofs.laws.law_by_set.Goals as goal

pub returns : goal.returns
returns c = law_by_set
