use Rattle.std.proofs.Common.{◌≡◌, take}
use Rattle.std.specs.Prelude.{All}
use Rattle.bc_key.specs.declared.key.Key.{Key}
use Rattle.bc_plain_pair.proofs.ranges.one_ends.Given as goal

abbrev pub invariant-loop-child : goal.invariant-loop-child
invariant-loop-child l = All (λ (c : Key). c.end ≡ l.end → ⊥) (take l.child-index l.children)
