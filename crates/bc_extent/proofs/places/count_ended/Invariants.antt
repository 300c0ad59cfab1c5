use Rattle.std.proofs.Common.{◌<◌, ◌≤◌, ◌-◌, length}
use Rattle.std.specs.List.{AllWithin}
use Rattle.bc_extent.proofs.places.count_ended.Given as goal

abbrev pub invariant-loop-low : goal.invariant-loop-low
invariant-loop-low l = record {
  low : l.low ≤ l.high;
  high : l.high ≤ length l.rows.keys;
  ended : AllWithin (λ key. key.end ≤ l.sector) l.rows.keys 0 l.low;
  later : AllWithin (λ key. l.sector < key.end) l.rows.keys l.high (length l.rows.keys);
}

abbrev pub decreases-loop-low : goal.decreases-loop-low
decreases-loop-low l = l.high - l.low
