use Rattle.std.proofs.Common.{◌≤◌, ◌+◌, length, vec_len, vec_capacity}
use Rattle.bc_parts.proofs.Laying.{IsLaying}
use Rattle.bc_parts.proofs.slots.lay.Given as goal

abbrev pub invariant-loop-part : goal.invariant-loop-part
invariant-loop-part g l = record {
  laying : IsLaying l.fn.parts.items l.parts.items l.slots.items;
  room : vec_len l.slots + vec_len l.parts + 2 ≤ vec_capacity l.slots;
  vector : length l.fn.parts.items ≤ vec_capacity l.parts;
}

abbrev pub decreases-loop-part : goal.decreases-loop-part
decreases-loop-part g l = vec_len l.parts
