use Rattle.bc_cache.specs.Search.{AreOldest}
use Rattle.bc_cache.proofs.slots.oldest.Given as goal

abbrev pub invariant-loop-i : goal.invariant-loop-i
invariant-loop-i l = AreOldest l.slots l.i l.known
