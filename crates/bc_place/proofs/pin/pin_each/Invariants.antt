use Rattle.std.proofs.Common.{◌≡◌}
use Rattle.bc_bucket.specs.Buckets.{changed}
use Rattle.bc_place.specs.Next.{with_pins}
use Rattle.bc_place.proofs.pin.pin_each.Given as goal

abbrev pub invariant-loop : goal.invariant-loop
invariant-loop l = l.buckets ≡ changed (with_pins l.counter) l.bucket l.initial.buckets
