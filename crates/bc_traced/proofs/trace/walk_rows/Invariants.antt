use Rattle.std.proofs.Common.{take}
use Rattle.bc_traced.specs.Rows.{AreWalked}
use Rattle.bc_traced.proofs.trace.walk_rows.Given as goal

abbrev pub invariant-loop-i : goal.invariant-loop-i
invariant-loop-i l = AreWalked l.g l.buckets (take l.i l.rows.keys) l.walk
