use Rattle.std.proofs.Common.{vec_len, vec_capacity}
use Rattle.bc_parts.proofs.Laying.{IsUnlaying}
use Rattle.bc_parts.proofs.slots.unlay.Given as goal

abbrev pub invariant-loop-slot : goal.invariant-loop-slot
invariant-loop-slot g l = IsUnlaying l.fn.slots.items l.book l.slots.items l.parts.items (vec_capacity l.parts)

abbrev pub decreases-loop-slot : goal.decreases-loop-slot
decreases-loop-slot g l = vec_len l.slots
