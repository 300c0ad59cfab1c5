use Rattle.std.proofs.Common.{◌≤◌, take}
use Rattle.std.specs.Prelude.{All}
use Rattle.bc_spine.proofs.numbers.greatest.Given as goal

abbrev pub invariant-loop-leaf : goal.invariant-loop-leaf
invariant-loop-leaf l = record {
  from : l.from ≤ l.most;
  all : All (λ leaf. leaf.number ≤ l.most) (take l.leaf-index l.leaves);
}
