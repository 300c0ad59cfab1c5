use Rattle.std.proofs.Common.{◌≡◌, ◌↔◌, ◌<◌, true, take}
use Rattle.std.specs.Prelude.{sum_by}
use Rattle.bc_alloc.specs.Reserve.{Reserve, times}
use Rattle.bc_plain.proofs.reserves.PlainReserves.has.Given as goal

abbrev pub invariant-loop-list : goal.invariant-loop-list
invariant-loop-list l = (l.found ≡ true)
    ↔ (0 < sum_by (λ (x : Reserve). times l.bucket x.buckets) (take l.list-index l.list-items))
