use Rattle.std.proofs.Common.{◌<◌, ◌≤◌, ◌-◌, length}
use Rattle.std.specs.List.{AllWithin}
use Rattle.bc_pending.proofs.share.count_ended.Given as goal

abbrev pub invariant-loop-low : goal.invariant-loop-low
invariant-loop-low l = record {
  low : l.low ≤ l.high;
  high : l.high ≤ length l.leaves;
  ended : AllWithin (λ leaf. leaf.end ≤ l.sector) l.leaves 0 l.low;
  later : AllWithin (λ leaf. l.sector < leaf.end) l.leaves l.high (length l.leaves);
}

abbrev pub decreases-loop-low : goal.decreases-loop-low
decreases-loop-low l = l.high - l.low
