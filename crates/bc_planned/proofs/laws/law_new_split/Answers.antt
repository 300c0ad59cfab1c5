use Rattle.bc_planned.proofs.Naming.{law_new_split}
use Rattle.bc_planned.proofs.laws.law_new_split.Goals as goal

pub returns : goal.returns
returns c = law_new_split
