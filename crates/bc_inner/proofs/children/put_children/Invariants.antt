use Rattle.std.proofs.Common.{◌≡◌, take}
use Rattle.bc_image.specs.Children.{with_children}
use Rattle.bc_inner.proofs.ChildLists.{Rise}
use Rattle.bc_inner.proofs.children.put_children.Given as goal

abbrev pub invariant-loop-key : goal.invariant-loop-key
invariant-loop-key l = record {
  is : l.children.items ≡ with_children (take l.key-index l.keys) l.initial.children.items;
  order : Rise l.children.items;
}
