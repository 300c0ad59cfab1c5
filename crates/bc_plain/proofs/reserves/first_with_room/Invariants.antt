use Rattle.std.proofs.Common.{◌≡◌, ℕ, ◌<◌, false, get_or}
use Rattle.bc_alloc.specs.Reserve.{has_room, no_reserve}
use Rattle.bc_plain.proofs.reserves.first_with_room.Given as goal

abbrev pub invariant-loop-i : goal.invariant-loop-i
invariant-loop-i l = (j : ℕ) → j < l.i → has_room (get_or l.lists j no_reserve) ≡ false
