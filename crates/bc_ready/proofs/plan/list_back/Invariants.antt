use Rattle.std.proofs.Common.{◌≡◌, ◌-◌, ◌≤◌, length, take}
use Rattle.std.specs.Prelude.{map, vec_capacity}
use Rattle.bc_ready.proofs.plan.list_back.Given as goal

abbrev pub invariant-loop-i : goal.invariant-loop-i
invariant-loop-i l = (l.back.items ≡ map (λ n. n - l.before) (take l.i l.old))
    × (length l.back.items ≤ l.i) × (length l.old ≤ vec_capacity l.back)
