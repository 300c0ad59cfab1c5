use Rattle.std.proofs.Common.{◌≡◌, ℕ, ◌<◌, ◌≤◌, List, [], ◌∷◌, ◌++◌, length, take, drop, get_or}
use Rattle.bc_key.specs.declared.key.Key.{Key}
use Rattle.bc_extent.specs.Rings.{joined, AreFull}
use Rattle.bc_extent.proofs.carry.pull_through.Given as goal

abbrev pub invariant-loop-i : goal.invariant-loop-i
invariant-loop-i l = record {
  moved : joined (take l.i l.fn.rings) ++ l.carried ∷ joined (drop l.i l.rings) ≡ joined l.fn.rings ++ l.fn.slot ∷ [];
  rest : (k : ℕ) (d : List Key) → k < l.i → get_or l.rings k d ≡ get_or l.fn.rings k d;
  full : AreFull l.rings;
  some : 1 ≤ l.i;
  few : l.i ≤ length l.rings;
}

abbrev pub decreases-loop-i : goal.decreases-loop-i
decreases-loop-i l = l.i
