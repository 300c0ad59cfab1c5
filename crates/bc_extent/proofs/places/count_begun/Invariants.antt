use Rattle.std.proofs.Common.{◌<◌, ◌≤◌, ◌-◌, length}
use Rattle.std.specs.List.{AllWithin}
use Rattle.bc_key.specs.Key.{start_of}
use Rattle.bc_extent.proofs.places.count_begun.Given as goal

abbrev pub invariant-loop-place : goal.invariant-loop-place
invariant-loop-place l = record {
  from : l.from ≤ l.place;
  within : l.place ≤ length l.rows.keys;
  begun : AllWithin (λ key. start_of key < l.sector) l.rows.keys 0 l.place;
}

abbrev pub decreases-loop-place : goal.decreases-loop-place
decreases-loop-place l = l.count - l.place
