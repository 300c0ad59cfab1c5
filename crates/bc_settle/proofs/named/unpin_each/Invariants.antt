use Rattle.std.proofs.Common.{◌≡◌}
use Rattle.bc_bucket.specs.Buckets.{changed}
use Rattle.bc_candidate.specs.bc_place.Next.{without_pins}
use Rattle.bc_settle.proofs.named.unpin_each.Given as goal

abbrev pub invariant-loop : goal.invariant-loop
invariant-loop l = l.buckets ≡ changed (without_pins l.counter) l.bucket l.initial.buckets
