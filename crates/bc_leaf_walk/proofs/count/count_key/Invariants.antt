use Rattle.std.proofs.Common.{◌≡◌, ◌-◌, ◌≤◌, length}
use Rattle.bc_key.specs.Key.{start_of}
use Rattle.bc_leaf_walk.specs.Pieces.{IsCountedTo}
use Rattle.bc_leaf_walk.proofs.count.count_key.Given as goal

abbrev pub invariant-loop-sector : goal.invariant-loop-sector
invariant-loop-sector l = (length l.walk ≡ length l.buckets.records)
    × (start_of l.key ≤ l.sector) × (l.sector ≤ l.key.end)
    × IsCountedTo l.buckets l.before l.key l.ptr (start_of l.key) l.sector l.initial.walk l.walk

abbrev pub decreases-loop-sector : goal.decreases-loop-sector
decreases-loop-sector l = l.key.end - l.sector
