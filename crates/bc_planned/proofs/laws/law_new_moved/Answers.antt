use Rattle.bc_planned.proofs.Naming.{law_new_moved}
use Rattle.bc_planned.proofs.laws.law_new_moved.Goals as goal

pub returns : goal.returns
returns c = law_new_moved
