use Rattle.std.proofs.Common.{◌≡◌, ◌≤◌, length, take}
use Rattle.std.specs.Prelude.{vec_capacity}
use Rattle.bc_alloc.specs.Reserves.{returned_all, stored_all}
use Rattle.bc_raise.specs.bc_renew.Goes.{listings}
use Rattle.bc_ready.specs.Free.{AreFree}
use Rattle.bc_ready.proofs.plan.list_named.Given as goal

abbrev pub invariant-loop-place : goal.invariant-loop-place
invariant-loop-place l = AreFree l.free (stored_all (take l.place l.reserves.raised)
    (returned_all l.old l.reserves.lists))
    × (l.listed.items ≡ listings l.before (take l.place l.reserves.raised)
    (returned_all l.old l.reserves.lists))
    × (length l.listed.items ≤ l.place) × (l.named ≤ vec_capacity l.listed)
