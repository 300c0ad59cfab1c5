use Rattle.std.proofs.Common.{◌≡◌, take, drop}
use Rattle.bc_model.proofs.values.Values.part.Given as goal

abbrev pub invariant-loop-i : goal.invariant-loop-i
invariant-loop-i l = l.part ≡ take l.i (drop l.from l.self)
