use Rattle.std.proofs.Common.{ℕ, ◌≤◌, length, drop}
use Rattle.std.specs.Ordering.{nat_cmp}
use Rattle.std.specs.BTreeMap.{get}
use Rattle.bc_entries.specs.Lists.{IsAt}
use Rattle.bc_entries.proofs.list.places_of.Given as goal

abbrev pub invariant-loop-at : goal.invariant-loop-at
invariant-loop-at l = record {
  within : l.at ≤ length l.all;
  places : (number : ℕ) → IsAt l.all (drop l.at l.all) number (get nat_cmp l.places number);
}

abbrev pub decreases-loop-at : goal.decreases-loop-at
decreases-loop-at l = l.at
