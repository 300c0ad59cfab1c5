use Rattle.std.proofs.Common.{◌≡◌, ℕ, ◌<◌, length, take, get_or}
use Rattle.bc_disk.specs.Log.{values_at}
use Rattle.bc_disk.proofs.crash.counts.Given as goal

abbrev pub invariant-loop-written : goal.invariant-loop-written
invariant-loop-written l = (length l.counts.items ≡ l.sectors) × ((s : ℕ) → s < l.sectors → get_or l.counts.items s 0 ≡ length (values_at s (take l.written-index l.log)))
