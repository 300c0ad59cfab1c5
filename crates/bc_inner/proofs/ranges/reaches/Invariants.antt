use Rattle.std.proofs.Common.{◌≡◌, All, take}
use Rattle.bc_inner.proofs.ranges.reaches.Given as goal

abbrev pub invariant-loop-child : goal.invariant-loop-child
invariant-loop-child l = All (λ c. ¬ (c.end ≡ l.end)) (take l.child-index l.children)
