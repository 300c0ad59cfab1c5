use Rattle.std.proofs.Common.{take}
use Rattle.bc_tree.specs.Children.{TakeAway}
use Rattle.bc_tree.proofs.children.take_away.Given as goal

abbrev pub invariant-loop-child : goal.invariant-loop-child
invariant-loop-child l = TakeAway (take l.child-index l.children) l.keys.items
