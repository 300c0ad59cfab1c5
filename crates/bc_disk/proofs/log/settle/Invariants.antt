use Rattle.std.proofs.Common.{◌≡◌, ℕ, [], drop}
use Rattle.bc_disk.specs.Bytes.{image_of}
use Rattle.bc_disk.specs.Log.{values_at}
use Rattle.bc_disk.proofs.log.settle.Given as goal

abbrev pub invariant-loop-written : goal.invariant-loop-written
invariant-loop-written l = (s : ℕ) → values_at s (drop l.written-index l.log) ≡ [] → image_of l.stable s ≡ image_of l.seen s
