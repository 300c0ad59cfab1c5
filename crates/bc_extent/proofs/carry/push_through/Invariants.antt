use Rattle.std.proofs.Common.{◌≡◌, ℕ, ◌≤◌, List, ◌∷◌, ◌++◌, take, drop, get_or}
use Rattle.std.specs.Prelude.{insert}
use Rattle.bc_key.specs.declared.key.Key.{Key}
use Rattle.bc_extent.specs.Rings.{joined, AreFull}
use Rattle.bc_extent.proofs.carry.push_through.Given as goal

abbrev pub invariant-loop-i : goal.invariant-loop-i
invariant-loop-i l = record {
  moved : joined (take l.i l.rings) ++ l.carried ∷ joined (drop l.i l.fn.rings) ≡ insert (joined l.fn.rings) l.fn.place l.fn.slot;
  rest : (k : ℕ) (d : List Key) → l.i ≤ k → get_or l.rings k d ≡ get_or l.fn.rings k d;
  full : AreFull l.rings;
}
