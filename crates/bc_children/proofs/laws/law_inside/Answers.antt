use Rattle.bc_children.proofs.Children.{law_inside}
use Rattle.bc_children.proofs.laws.law_inside.Goals as goal

pub returns : goal.returns
returns c = law_inside
