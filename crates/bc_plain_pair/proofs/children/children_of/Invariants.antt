use Rattle.std.proofs.Common.{◌≡◌, drop}
use Rattle.bc_image.specs.Children.{with_children, children_of}
use Rattle.bc_plain_pair.proofs.children.children_of.Given as goal

abbrev pub invariant-loop-key : goal.invariant-loop-key
invariant-loop-key l = with_children (drop l.key-index l.keys) l.children.items ≡ children_of l.keys
