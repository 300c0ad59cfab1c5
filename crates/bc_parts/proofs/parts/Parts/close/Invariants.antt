use Rattle.std.proofs.Common.{◌≡◌}
use Rattle.std.specs.Mem.Slots.{slots_items, slots_filled, slots_len}
use Rattle.bc_parts.specs.Machine.{state_after}
use Rattle.bc_parts.proofs.Closing.{IsTakenUpTo, IsCollected}
use Rattle.bc_parts.proofs.parts.Parts.close.Given as goal

abbrev pub invariant-loop-k : goal.invariant-loop-k
invariant-loop-k g l = record {
  slots : slots_items l.closed.slots ≡ slots_items l.initial.closed.slots;
  places : slots_len l.closed.slots ≡ slots_len l.initial.closed.slots;
  filled : IsTakenUpTo (slots_filled l.closed.slots) l.count l.k;
  parts : IsCollected g.M.Machine (state_after g.M.Machine l.fn.self.run.start l.fn.seat.seen) l.parts l.count l.k;
}
