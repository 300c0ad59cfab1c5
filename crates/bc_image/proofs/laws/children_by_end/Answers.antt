use Rattle.bc_image.proofs.Children.{children_rise, children_last}
use Rattle.bc_image.proofs.laws.children_by_end.Goals as goal

pub returns-clause-order : goal.returns-clause-order
returns-clause-order c = children_rise

pub returns-clause-last : goal.returns-clause-last
returns-clause-last c = children_last
