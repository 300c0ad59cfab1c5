use Rattle.bc_cache.proofs.Oldest.{MissedBelow}
use Rattle.bc_cache.proofs.slots.slot_of.Given as goal

abbrev pub invariant-loop-i : goal.invariant-loop-i
invariant-loop-i l = MissedBelow l.slots l.number l.i
