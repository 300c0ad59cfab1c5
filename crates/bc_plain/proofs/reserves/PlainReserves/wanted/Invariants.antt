use Rattle.std.proofs.Common.{◌≡◌, ◌*◌, ◌^◌, ◌≤◌, take}
use Rattle.std.specs.Prelude.{sum_by}
use Rattle.bc_alloc.specs.Reserve.{Reserve, free}
use Rattle.bc_plain.proofs.reserves.PlainReserves.wanted.Given as goal

abbrev pub invariant-loop-list : goal.invariant-loop-list
invariant-loop-list l =
    (l.free ≡ sum_by (λ (x : Reserve). free x) (take l.list-index l.list-items))
    × (l.free ≤ l.list-index * 2 ^ 32)
