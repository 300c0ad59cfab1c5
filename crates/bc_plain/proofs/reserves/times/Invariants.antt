use Rattle.std.proofs.Common.{◌≡◌, ◌≤◌, take}
use Rattle.bc_alloc.specs.Reserve.{times}
use Rattle.bc_plain.proofs.reserves.times.Given as goal

abbrev pub invariant-loop-k : goal.invariant-loop-k
invariant-loop-k l = (l.count ≡ times l.bucket (take l.k-index l.buckets)) × (l.count ≤ l.k-index)
