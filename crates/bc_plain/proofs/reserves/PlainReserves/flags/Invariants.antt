use Rattle.std.proofs.Common.{◌≡◌, ◌↔◌, ℕ, ◌<◌, true, false, get_or}
use Rattle.std.specs.Prelude.{vec_len}
use Rattle.bc_alloc.specs.Reserves.{times_listed}
use Rattle.bc_plain.proofs.reserves.PlainReserves.flags.Given as goal

abbrev pub invariant-loop-bucket : goal.invariant-loop-bucket
invariant-loop-bucket l = (vec_len l.flags ≡ l.bucket) × ((k : ℕ) → k < l.bucket
    → (get_or l.flags.items k false ≡ true) ↔ (0 < times_listed l.self k))
