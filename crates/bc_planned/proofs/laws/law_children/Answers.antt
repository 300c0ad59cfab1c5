use Rattle.bc_planned.proofs.Naming.{law_children}
use Rattle.bc_planned.proofs.laws.law_children.Goals as goal

pub returns : goal.returns
returns c = law_children
