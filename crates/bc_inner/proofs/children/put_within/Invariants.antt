use Rattle.std.proofs.Common.{◌≡◌, ◌+◌, ◌≤◌, take}
use Rattle.std.specs.Prelude.{vec_len, vec_capacity}
use Rattle.bc_image.specs.Children.{with_children}
use Rattle.bc_inner.proofs.ChildLists.{Rise}
use Rattle.bc_inner.proofs.children.put_within.Given as goal

abbrev pub invariant-loop-key : goal.invariant-loop-key
invariant-loop-key l = record {
  is : l.children.items ≡ with_children (take l.key-index l.keys) l.initial.children.items;
  order : Rise l.children.items;
  room : vec_capacity l.initial.children ≤ vec_capacity l.children;
  few : vec_len l.children ≤ vec_len l.initial.children + l.key-index;
}
