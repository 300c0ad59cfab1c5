use Rattle.bc_children.proofs.Children.{law_tree}
use Rattle.bc_children.proofs.laws.law_tree.Goals as goal

pub returns : goal.returns
returns c = law_tree
