use Rattle.bc_alloc.proofs.Loops.{Stored}
use Rattle.bc_alloc.proofs.reserves.Reserves.store_raised.Given as goal

abbrev pub invariant-loop-i : goal.invariant-loop-i
invariant-loop-i l = Stored l.fn.self l.fn.b l._i l.self l.b
