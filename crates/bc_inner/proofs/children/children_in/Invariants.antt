use Rattle.std.proofs.Common.{◌≡◌, take}
use Rattle.bc_image.specs.Children.{children_of}
use Rattle.bc_image.specs.Tree.{set_keys}
use Rattle.bc_inner.proofs.children.children_in.Given as goal

abbrev pub invariant-loop-set : goal.invariant-loop-set
invariant-loop-set l = l.children.items ≡ children_of (set_keys (take l.set-index l.sets))
